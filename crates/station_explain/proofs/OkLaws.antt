-- Values of results.
use Rattle.std.specs.Prelude.{Result, Ok, Err, IfOk}

-- What follows for each value is so of the value that there is.
pub with_value : {T E : Type 0} {P Q : T → Type 0} (r : Result T E) → ((x : T) → P x → Q x)
    → IfOk r P → IfOk r Q
with_value (Ok x) follows p = follows x p
with_value (Err e) follows p = p
