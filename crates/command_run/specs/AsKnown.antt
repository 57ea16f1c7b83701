-- What a host gives, as far as it is known.
use Rattle.std.specs.Prelude.{◌≡◌, Option, IfSome}

-- What was given is what is known of it, where that is known.
abbrev pub IsAsKnown : {A : Type 0} → Option A → A → Type 0
IsAsKnown known given = IfSome known (λ k. given ≡ k)
