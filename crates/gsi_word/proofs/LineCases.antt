-- Each line is a block or has a fault.
use Rattle.std.proofs.Common.{◌≡◌, ◌≢◌, ℕ, zero, suc, ◌+◌, ◌≤◌, Bool, true, false, eqb, List, []}
use Rattle.std.proofs.Common.{◌∷◌, length, drop, replicate, All, Any, ◌⊎◌, inl, inr, refl, ap}
use Rattle.std.proofs.Common.{arith}
use Rattle.std.specs.Prelude.{if◌then◌else◌}
use Rattle.std.proofs.lemmas.Bool.{cases_Bool, eqb-true, eqb-false}
use Rattle.std.proofs.lemmas.List.{length-drop}
use Rattle.std.proofs.lemmas.List.Elements.{All-nil, All-cons, All-drop}
use Rattle.gsi_word.specs.Words.{GsiWord, IsLineByte}
use Rattle.gsi_word.specs.Blocks.{GsiBlock, width_of, word_bytes, AreWords, BeginsBlock, IsBlock}
use Rattle.gsi_word.specs.Blocks.{is_starred}
use Rattle.gsi_word.specs.LineFaults.{IsByteFault, IsWordFault, IsLineFault}
use Rattle.gsi_word.specs.Layout.{is_printable, begins_word, words_from}
use Rattle.gsi_word.specs.declared.line_fault.LineFault.{LineFault}
use Rattle.gsi_word.specs.declared.line_fault.LineFault.TheVariants.{Byte, Word, FirstWord}
use Rattle.gsi_word.proofs.PrintableLaws.{no_printable, printable}
use Rattle.gsi_word.proofs.RunLaws.{Runs, run_are_words, run_has_fault}
use Rattle.gsi_word.proofs.WordLaws.{long_of}

-- All bytes may stand in a line, or there is a first that may not.
bytes_or_fault : (line : List ℕ) → All IsLineByte line ⊎ ((at : ℕ) × IsByteFault line at)
bytes_or_fault [] = inl (All-nil IsLineByte)
bytes_or_fault (b ∷ line) = elim (cases_Bool (is_printable b)) [
  | inl good ↦ elim (bytes_or_fault line) [
    | inl all ↦ inl (All-cons IsLineByte b line (printable b good) all)
    | inr later ↦ let f = later.1 in inr (
      later.0 + 1,
      record {
        front = b ∷ f.front;
        byte = f.byte;
        rest = f.rest;
        text = ap (λ (r : List ℕ). b ∷ r) f.text;
        place = omega (arith, f.place);
        before = All-cons IsLineByte b f.front (printable b good) f.before;
        fault = f.fault;
      },
    )
  ]
  | inr bad ↦ inr (
    1,
    record {
      front = [];
      byte = b;
      rest = line;
      text = refl;
      place = refl;
      before = All-nil IsLineByte;
      fault = no_printable b bad;
    },
  )
]

-- Words run up to a place where none begins.
record RunsOut (width : ℕ) (bytes : List ℕ) : Type 0 where
  pub count : ℕ
  pub rest : List ℕ
  pub run : Runs width count bytes rest
  pub stops : begins_word width rest ≡ false

runs_out : (most width : ℕ) (bytes : List ℕ) → length bytes ≤ most → RunsOut width bytes
runs_out zero width bytes le = elim (cases_Bool (begins_word width bytes)) [
  | inl begins ↦ absurd (omega (arith, le, long_of width bytes begins))
  | inr stops ↦ record { count = 0; rest = bytes; run = refl; stops = stops }
]
runs_out (suc n) width bytes le = elim (cases_Bool (begins_word width bytes)) [
  | inl begins ↦ (
      let next = drop (8 + width) bytes in
      let r = runs_out n width next (omega (
        arith,
        le,
        long_of width bytes begins,
        length-drop (8 + width) bytes,
      )) in
      record { count = suc r.count; rest = r.rest; run = (begins, r.run); stops = r.stops })
  | inr stops ↦ record { count = 0; rest = bytes; run = refl; stops = stops }
]

-- Only blanks, or another byte.
blank_or_ink : (bytes : List ℕ) → (bytes ≡ replicate (length bytes) 32) ⊎ Any (λ b. b ≢ 32) bytes
blank_or_ink [] = inl refl
blank_or_ink (b ∷ bytes) = elim (cases_Bool (eqb b 32)) [
  | inl blank ↦ elim (blank_or_ink bytes) [
    | inl blanks ↦ inl (rw (eqb-true _ _ blank) (ap (λ (r : List ℕ). 32 ∷ r) blanks))
    | inr ink ↦ inr (suc ink.0, ink.1, omega (arith, ink.2), ink.3, ink.4)
  ]
  | inr ink ↦ inr (0, b, omega arith, refl, eqb-false _ _ ink)
]

words_or_fault : (width : ℕ) (bytes : List ℕ) → All IsLineByte bytes
    → ((words : List GsiWord) × AreWords width bytes words)
    ⊎ ((nth : ℕ) × IsWordFault width bytes nth)
words_or_fault width bytes h = by r.count r.run
  where
    r : RunsOut width bytes
    r = runs_out (length bytes) width bytes (omega arith)

    by : (n : ℕ) → Runs width n bytes r.rest → ((words : List GsiWord) × AreWords width bytes words)
        ⊎ ((nth : ℕ) × IsWordFault width bytes nth)
    by zero run = inr (0 + 1, run_has_fault width 0 bytes r.rest run h r.stops (inl refl))
    by (suc n) run = elim (blank_or_ink r.rest) [
      | inl blank ↦ inl (
        words_from width (suc n) bytes,
        run_are_words width (suc n) bytes r.rest run (omega arith) h blank,
      )
      | inr ink ↦ inr (suc n + 1, run_has_fault width (suc n) bytes r.rest run h r.stops (inr ink))
    ]

begins_or_not : (words : List GsiWord) → BeginsBlock words ⊎ (¬ BeginsBlock words)
begins_or_not [] = inr (λ none. none)
begins_or_not (w ∷ ws) = elim (cases_Bool (eqb w.index 11)) [
  | inl point ↦ inl (inl (eqb-true _ _ point))
  | inr no_point ↦ elim (cases_Bool (eqb w.index 41)) [
    | inl code ↦ inl (inr (eqb-true _ _ code))
    | inr no_code ↦ inr (λ first. elim first [
      | inl e ↦ eqb-false _ _ no_point e
      | inr e ↦
          eqb-false _ _ no_code e
    ])
  ]
]

printable_line : (line : List ℕ) → All IsLineByte line → All IsLineByte (word_bytes line)
printable_line line h = by (is_starred line)
  where
    by : (starred : Bool) → All IsLineByte (if starred then drop 1 line else line)
    by true = All-drop IsLineByte 1 line h
    by false = h

-- Each line is a block or has a fault.
pub block_or_fault : (line : List ℕ) → ((block : GsiBlock) × IsBlock line block)
    ⊎ ((fault : LineFault) × IsLineFault line fault)
block_or_fault line = elim (bytes_or_fault line) [
  | inr bad ↦ inr (Byte bad.0, bad.1)
  | inl good ↦ elim (words_or_fault (width_of line) (word_bytes line) (printable_line line good)) [
    | inr bad ↦ inr (Word bad.0, (good, bad.1))
    | inl are ↦ elim (begins_or_not are.0) [
      | inl first ↦ inl (
        record { width = width_of line; words = are.0 },
        record { width = refl; words = are.1; first = first },
      )
      | inr other ↦ inr (FirstWord, record { words = are.0; are_words = are.1; fault = other })
    ]
  ]
]
