-- What is shown of a text, character by character.
use Rattle.std.proofs.Common.{◌≡◌, ◌∷◌, [], ◌++◌, ◌∙◌, ℕ, List, map, ap, sym, refl, rules}
use Rattle.std.specs.Prelude.{encode_utf8, encode_utf8_all}
use Rattle.std.specs.Str.{chars, IsUtf8}
use Rattle.std.proofs.lemmas.Str.{chars_from_encodes}
use Rattle.std.proofs.lemmas.List.{append_assoc, append-nil}
use Rattle.command_run.specs.Unopened.{shown, printable}

-- Of some characters and one more, that one is shown last.
pub shown_then : (cs : List ℕ) (c : ℕ) → encode_utf8_all (map shown (cs ++ c ∷ []))
    ≡ encode_utf8_all (map shown cs) ++ encode_utf8 (shown c)
unfolding lib.Utf8.encode
shown_then [] c = append-nil (encode_utf8 (shown c))
shown_then (d ∷ cs) c = let later = shown_then cs c in search (rules, later)

-- Where a text is spelled by some characters, they are what is shown of it.
pub shown_whole : (cs text : List ℕ) → IsUtf8 text → encode_utf8_all cs ≡ text
    → printable text ≡ encode_utf8_all (map shown cs)
shown_whole cs text is_text spelled =
    let all : cs ≡ chars text = chars_from_encodes cs text is_text spelled in
    rw all refl

-- The same after some words.
pub shown_after : (words cs : List ℕ) (c : ℕ)
    → (words ++ encode_utf8_all (map shown cs)) ++ encode_utf8 (shown c)
    ≡ words ++ encode_utf8_all (map shown (cs ++ c ∷ []))
shown_after words cs c =
    append_assoc words (encode_utf8_all (map shown cs)) (encode_utf8 (shown c))
    ∙ ap (λ text. words ++ text) (sym (shown_then cs c))

-- What is shown, one character more and in all.
pub ruleset as_shown = (shown_after, shown_whole)
