-- Names that are filled with blanks.
use Rattle.std.specs.Prelude.{ℕ, List}
use Rattle.std.proofs.Common.{◌≡◌, ◌-◌, ◌^◌, ◌≤◌, length, arith, refl}
use lib.Utf8.{encode}
use Rattle.std.proofs.Padding.{take_chars_all}
use Rattle.std.specs.Fmt.{char_count, format_spec, padded, styled_text}
use Rattle.station_explain.specs.Explaining.{filled}

-- What `{name:<16}` writes is the name, filled to 16 characters.
pub filled_by_format : (name : List ℕ) → length name ≤ 2 ^ 64 - 1
    → styled_text (format_spec 32 1 0 16 (2 ^ 64 - 1)) name ≡ filled 16 name
unfolding padded encode
filled_by_format name short =
    let after : 16 - char_count name - 0 ≡ 16 - char_count name = omega arith in
    rw (take_chars_all (2 ^ 64 - 1) name short, after) refl
