-- A text that was made in memory, handed out.
use Rattle.std.proofs.Common.{ℕ, List, Result, Ok, Err, inl, inr}
use Rattle.std.specs.Global.{Global}
use Rattle.std.specs.Prelude.{IfOk, Vec}
use Rattle.station_check.specs.RunEndings.{status_of}
use Rattle.station_check.specs.VerdictLines.{refusal_line}
use Rattle.station_check.specs.declared.fault.Fault.TheVariants.{Memory}
use Rattle.station_page.specs.HandedOut.{HandsOut, HandsOutMade, text_or}
use Rattle.station_page.specs.Texts.{bytes_in}

-- Where this is so of the text, it is so of what is handed out.
pub made : {F : Type 0} (IsSo : List ℕ → Type 0) (text : Result (Vec ℕ Global) F)
    (room answered : ℕ) (shown : List ℕ) → IfOk text (λ made. IsSo made.items)
    → HandsOut (status_of (bytes_in text)) (text_or (λ none. refusal_line Memory) (bytes_in text))
    room answered shown
    → HandsOutMade IsSo room answered shown
made IsSo (Ok text) room answered shown so out = inl (text.items, so, out)
made IsSo (Err none) room answered shown so out = inr out
