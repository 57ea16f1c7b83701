-- The outcome of bytes, by what they begin with.
use Rattle.std.proofs.Common.{◌≡◌, ℕ, zero, suc, ◌+◌, ◌-◌, ◌<◌, ◌≤◌, Bool, true, false, cond, not}
use Rattle.std.proofs.Common.{◌&&◌, List, [], ◌∷◌, ◌++◌, length, take, Option, None, Some, refl}
use Rattle.std.proofs.Common.{sym, ap, ◌∙◌, arith, length-append}
use Rattle.std.specs.Prelude.{nat_le, nat_lt, filter}
use Rattle.std.specs.List.{list_all}
use Rattle.std.specs.Option.{option_map}
use Rattle.std.proofs.lemmas.List.{append-nil}
use Rattle.std.proofs.lemmas.List.Elements.{All-take, All-nil, All-cons, All-append}
use Rattle.std.proofs.lemmas.List.Splits.{slice_split_none, slice_split_at, length-slice_split}
use Rattle.std.proofs.lemmas.Bool.Decides.{nat_tests}
use Rattle.gsi_file.specs.declared.file_fault.FileKind.TheVariants.{Read, FileTooLong, LineTooLong}
use Rattle.gsi_file.specs.Parts.{parts, is_line_end, HasNoEnd, is_line, front_of, ended_lines}
use Rattle.gsi_file.specs.FileAnswers.{is_within, answers_within}
use Rattle.gsi_file.specs.Passing.{with_line}
use Rattle.gsi_file.proofs.Breaks.{answers_by, breaks, same_answers}
use Rattle.gsi_file.proofs.Fronts.{shortest_front, same_first, first_after}

both_le : (a b c : ℕ) → a ≤ b → a ≤ c → (nat_le a b && (nat_le a c && true)) ≡ true
both_le a b c p q = grind (arith, nat_tests)

line_le : (m n k room : ℕ) (b : Bool) → m ≡ n + suc k → n ≤ 1024 → n < room
    → (nat_le m room && (nat_le n 1024 && b)) ≡ (nat_le k (room - (n + 1)) && b)
line_le m n k room b e p q = grind (arith, nat_tests)

take_short : (i : ℕ) (xs : List ℕ) → length (take i xs) ≤ length xs
take_short zero xs = omega arith
take_short (suc i) [] = omega arith
take_short (suc i) (x ∷ xs) = omega (arith, take_short i xs)

front_cons : {A : Type 0} (x : A) (xs : List A) → 0 < length xs
    → front_of (x ∷ xs) ≡ x ∷ front_of xs
front_cons x [] lt = absurd (omega arith)
front_cons x (y ∷ ys) lt = let e : suc (suc (length ys)) - 1 ≡ suc (suc (length ys) - 1) =
    omega arith in ap (λ k. take k (x ∷ y ∷ ys)) e

-- All but the last of two lists in a row are the first list and all but the last of the second.
front_append : (xs ys : List ℕ) → 0 < length ys → front_of (xs ++ ys) ≡ xs ++ front_of ys
front_append [] ys lt = refl
front_append (x ∷ xs) ys lt = front_cons x (xs ++ ys) (omega (arith, length-append xs ys))
    ∙ ap (λ zs. x ∷ zs) (front_append xs ys lt)

-- One part within the limits.
within_part : (room : ℕ) (front : List ℕ) → HasNoEnd front → length front ≤ 1024
    → length front ≤ room → is_within room front ≡ true
within_part room front plain short le =
    ap (λ (ps : List (List ℕ)). nat_le (length front) room
    && list_all (λ part. nat_le (length part) 1024) ps)
    (slice_split_none is_line_end front plain)
    ∙ both_le (length front) room 1024 le short

-- A line within the limits, and other bytes.
within_line : (room : ℕ) (part : List ℕ) (sep : ℕ) (f : List ℕ) → HasNoEnd part
    → is_line_end sep ≡ true → length part ≤ 1024 → length part < room
    → is_within room (part ++ sep ∷ f) ≡ is_within (room - (length part + 1)) f
within_line room part sep f plain end short lt =
    ap (λ (ps : List (List ℕ)). nat_le (length (part ++ sep ∷ f)) room
    && list_all (λ p. nat_le (length p) 1024) ps)
    (slice_split_at is_line_end part sep f plain end)
    ∙ line_le (length (part ++ sep ∷ f)) (length part) (length f) room
    (list_all (λ p. nat_le (length p) 1024) (parts f)) (length-append part (sep ∷ f)) short lt

not_broken : (room : ℕ) (front : List ℕ) → HasNoEnd front → length front ≤ 1024
    → length front ≤ room → (i : ℕ) → i < length front → breaks room (take i front) ≡ false
not_broken room front plain short le i lt = ap not
    (within_part room (take i front) (All-take (λ b. is_line_end b ≡ false) i front plain)
    (omega (arith, take_short i front)) (omega (arith, take_short i front)))

none_broken : (room : ℕ) (front : List ℕ) → HasNoEnd front → length front ≤ 1024
    → length front ≤ room → shortest_front (breaks room) front ≡ None
none_broken room front plain short le =
    ap (shortest_front (breaks room)) (sym (append-nil front))
    ∙ first_after (breaks room) front [] (not_broken room front plain short le)
    ∙ ap (λ f. option_map (λ g. front ++ g) (cond (breaks room f) (Some []) None))
    (append-nil front)
    ∙ ap (λ b. option_map (λ g. front ++ g) (cond (not b) (Some []) None))
    (within_part room front plain short le)

-- After a part and one more byte, the limit is first broken where it is with both before it.
beyond : (room : ℕ) (part : List ℕ) (byte : ℕ) (rest : List ℕ) → HasNoEnd part → length part ≤ 1024
    → length part ≤ room → shortest_front (breaks room) (part ++ byte ∷ rest)
    ≡ option_map (λ g. part ++ g) (option_map (λ g. byte ∷ g)
    (shortest_front (λ f. breaks room (part ++ byte ∷ f)) rest))
beyond room part byte rest plain short le =
    first_after (breaks room) part (byte ∷ rest) (not_broken room part plain short le)
    ∙ ap (λ f. option_map (λ g. part ++ g) (cond (breaks room f) (Some [])
    (option_map (λ g. byte ∷ g) (shortest_front (λ f. breaks room (part ++ byte ∷ f)) rest))))
    (append-nil part)
    ∙ ap (λ b. option_map (λ g. part ++ g) (cond (not b) (Some [])
    (option_map (λ g. byte ∷ g) (shortest_front (λ f. breaks room (part ++ byte ∷ f)) rest))))
    (within_part room part plain short le)

first_here : (p : List ℕ → Bool) (xs : List ℕ) → p [] ≡ true → shortest_front p xs ≡ Some []
first_here p [] h = ap (λ b. cond b (Some []) None) h
first_here p (x ∷ xs) h = ap (λ b. cond b (Some [])
    (option_map (λ f. x ∷ f) (shortest_front (λ f. p (x ∷ f)) xs))) h

no_lines : (front : List ℕ) → HasNoEnd front → ended_lines front ≡ []
no_lines front plain = ap (λ (ps : List (List ℕ)). filter is_line (front_of ps))
    (slice_split_none is_line_end front plain)

some_part : (bytes : List ℕ) → 0 < length (parts bytes)
some_part bytes = omega (arith, length-slice_split is_line_end bytes)

line_ended : (part : List ℕ) (sep : ℕ) (rest : List ℕ) → HasNoEnd part → is_line_end sep ≡ true
    → ended_lines (part ++ sep ∷ rest) ≡ cond (is_line part) (part ∷ ended_lines rest)
    (ended_lines rest)
line_ended part sep rest plain end =
    ap (λ (ps : List (List ℕ)). filter is_line (front_of ps))
    (slice_split_at is_line_end part sep rest plain end)
    ∙ ap (filter is_line) (front_cons part (parts rest) (some_part rest))

-- At the end a part within the limits is answered, where it is a line, and no fault.
pub answers_end : (room : ℕ) (front : List ℕ) → HasNoEnd front → length front ≤ 1024
    → length front ≤ room → answers_within room front false
    ≡ record { lines = cond (is_line front) (front ∷ []) []; last = None }
answers_end room front plain short le =
    same_answers room front false
    ∙ ap (answers_by room front false) (none_broken room front plain short le)
    ∙ ap (λ (ps : List (List ℕ)). record { lines = filter is_line ps; last = None })
    (slice_split_none is_line_end front plain)

-- Where the source fails within a part, the answer is the failed read alone.
pub answers_failed : (room : ℕ) (front : List ℕ) → HasNoEnd front → length front ≤ 1024
    → length front ≤ room → answers_within room front true ≡ record { lines = []; last = Some Read }
answers_failed room front plain short le =
    same_answers room front true
    ∙ ap (answers_by room front true) (none_broken room front plain short le)
    ∙ ap (λ (ls : List (List ℕ)). record { lines = ls; last = Some Read }) (no_lines front plain)

kind_after : (a b room n : ℕ) → a ≡ n + suc b → n < room → nat_lt room a ≡ nat_lt (room - (n + 1)) b
kind_after a b room n e lt = grind (arith, nat_tests)

at_line : (room : ℕ) (part : List ℕ) (sep : ℕ) (rest : List ℕ) (fails : Bool) (o : Option (List ℕ))
    → HasNoEnd part → is_line_end sep ≡ true → length part < room → (o ≡ Some [] → ⊥) →
    answers_by room (part ++ sep ∷ rest) fails
    (option_map (λ g. part ++ g) (option_map (λ g. sep ∷ g) o))
    ≡ with_line part (answers_by (room - (length part + 1)) rest fails o)
at_line room part sep rest true None plain end lt some =
    ap (λ (ls : List (List ℕ)). record { lines = ls; last = Some Read })
    (line_ended part sep rest plain end)
at_line room part sep rest false None plain end lt some =
    ap (λ (ps : List (List ℕ)). record { lines = filter is_line ps; last = None })
    (slice_split_at is_line_end part sep rest plain end)
at_line room part sep rest fails (Some []) plain end lt some = absurd (some refl)
at_line room part sep rest fails (Some (x ∷ f)) plain end lt some =
    let e : front_of (part ++ sep ∷ x ∷ f) ≡ part ++ sep ∷ front_of (x ∷ f) =
    front_append part (sep ∷ x ∷ f) (omega arith)
    ∙ ap (λ zs. part ++ zs) (front_cons sep (x ∷ f) (omega arith)) in
    ap (λ (zs : List ℕ). record {
      lines = ended_lines zs;
      last = Some (cond (nat_lt room (length (part ++ sep ∷ x ∷ f))) FileTooLong LineTooLong);
    }) e
    ∙ ap (λ (ls : List (List ℕ)). record {
      lines = ls;
      last = Some (cond (nat_lt room (length (part ++ sep ∷ x ∷ f))) FileTooLong LineTooLong);
    })
    (line_ended part sep (front_of (x ∷ f)) plain end)
    ∙ ap (λ (b : Bool). with_line part (record {
      lines = ended_lines (front_of (x ∷ f));
      last = Some (cond b FileTooLong LineTooLong);
    }))
    (kind_after (length (part ++ sep ∷ x ∷ f)) (length (x ∷ f)) room (length part)
    (length-append part (sep ∷ x ∷ f)) lt)

-- What passes after a first byte isn't empty.
not_none : (p : List ℕ → Bool) (xs : List ℕ) → p [] ≡ false → shortest_front p xs ≡ Some [] → ⊥
not_none p [] h e = let d : None ≡ Some [] = ap (λ b. cond b (Some []) None) (sym h) ∙ e in cc
not_none p (x ∷ xs) h e = longer (shortest_front (λ f. p (x ∷ f)) xs)
    (ap (λ b. cond b (Some []) (option_map (λ f. x ∷ f) (shortest_front (λ f. p (x ∷ f)) xs)))
    (sym h) ∙ e)
  where
    longer : (o : Option (List ℕ)) → option_map (λ f. x ∷ f) o ≡ Some [] → ⊥
    longer None e = cc
    longer (Some f) e = cc

-- A part within the limits that a byte ended is answered first, where it is a line.
pub answers_line : (room : ℕ) (part : List ℕ) (sep : ℕ) (rest : List ℕ) (fails : Bool)
    → HasNoEnd part → is_line_end sep ≡ true → length part ≤ 1024 → length part < room
    → answers_within room (part ++ sep ∷ rest) fails
    ≡ with_line part (answers_within (room - (length part + 1)) rest fails)
answers_line room part sep rest fails plain end short lt =
    let le : length part ≤ room = omega arith in
    same_answers room (part ++ sep ∷ rest) fails
    ∙ ap (answers_by room (part ++ sep ∷ rest) fails) (beyond room part sep rest plain short le)
    ∙ ap (λ o. answers_by room (part ++ sep ∷ rest) fails
    (option_map (λ g. part ++ g) (option_map (λ g. sep ∷ g) o)))
    (same_first (λ f. breaks room (part ++ sep ∷ f)) (breaks (room - (length part + 1))) rest
    (λ f. ap not (within_line room part sep f plain end short lt)))
    ∙ at_line room part sep rest fails (shortest_front (breaks (room - (length part + 1))) rest)
    plain end lt (not_none (breaks (room - (length part + 1))) rest
    (ap not (within_part (room - (length part + 1)) [] (All-nil (λ b. is_line_end b ≡ false))
    (omega arith) (omega arith))))
    ∙ ap (with_line part) (sym (same_answers (room - (length part + 1)) rest fails))

-- A byte that breaks a limit.
broken : (room : ℕ) (front : List ℕ) (byte : ℕ) (rest : List ℕ) (fails : Bool) → HasNoEnd front
    → length front ≤ 1024 → length front ≤ room → is_within room (front ++ byte ∷ []) ≡ false
    → answers_within room (front ++ byte ∷ rest) fails
    ≡ record {
      lines = [];
      last = Some (cond (nat_lt room (length front + 1)) FileTooLong LineTooLong);
    }
broken room front byte rest fails plain short le bad =
    same_answers room (front ++ byte ∷ rest) fails
    ∙ ap (answers_by room (front ++ byte ∷ rest) fails) (beyond room front byte rest plain short le
    ∙ ap (λ o. option_map (λ g. front ++ g) (option_map (λ g. byte ∷ g) o))
    (first_here (λ f. breaks room (front ++ byte ∷ f)) rest (ap not bad)))
    ∙ ap (λ (zs : List ℕ). record {
      lines = ended_lines zs;
      last = Some (cond (nat_lt room (length (front ++ byte ∷ []))) FileTooLong LineTooLong);
    })
    (front_append front (byte ∷ []) (omega arith) ∙ append-nil front)
    ∙ ap (λ (ls : List (List ℕ)). record {
      lines = ls;
      last = Some (cond (nat_lt room (length (front ++ byte ∷ []))) FileTooLong LineTooLong);
    })
    (no_lines front plain)
    ∙ ap (λ (n : ℕ). record {
      lines = [];
      last = Some (cond (nat_lt room n) FileTooLong LineTooLong);
    }) (length-append front (byte ∷ []))

over_room : (n m room : ℕ) (b : Bool) → m ≡ n + 1 → n ≡ room → (nat_le m room && b) ≡ false
over_room n m room b e f = grind (arith, nat_tests)

-- Where a part takes all that may be taken and a byte follows, the file is too long.
pub answers_long_file : (room : ℕ) (front : List ℕ) (byte : ℕ) (rest : List ℕ) (fails : Bool)
    → HasNoEnd front → length front ≤ 1024 → length front ≡ room
    → answers_within room (front ++ byte ∷ rest) fails
    ≡ record { lines = []; last = Some FileTooLong }
answers_long_file room front byte rest fails plain short e =
    broken room front byte rest fails plain short (omega arith)
    (over_room (length front) (length (front ++ byte ∷ [])) room
    (list_all (λ p. nat_le (length p) 1024) (parts (front ++ byte ∷ [])))
    (length-append front (byte ∷ [])) e)
    ∙ ap (λ (b : Bool). record { lines = []; last = Some (cond b FileTooLong LineTooLong) })
    (kind (length front) room e)
  where
    kind : (n r : ℕ) → n ≡ r → nat_lt r (n + 1) ≡ true
    kind n r e = grind (arith, nat_tests)

over_line : (m : ℕ) (a : Bool) → m ≡ 1025 → (a && (nat_le m 1024 && true)) ≡ false
over_line m a e = grind (arith, nat_tests)

-- Where 1024 bytes without an end are followed by a byte that ends no line, the line is too long.
pub answers_long_line : (room : ℕ) (front : List ℕ) (byte : ℕ) (rest : List ℕ) (fails : Bool)
    → HasNoEnd front → is_line_end byte ≡ false → length front ≡ 1024 → length front < room
    → answers_within room (front ++ byte ∷ rest) fails
    ≡ record { lines = []; last = Some LineTooLong }
answers_long_line room front byte rest fails plain end e lt =
    let whole = front ++ byte ∷ [] in
    let longer : length whole ≡ 1025 = omega (arith, length-append front (byte ∷ [])) in
    let plain' : HasNoEnd whole = All-append (λ b. is_line_end b ≡ false) front (byte ∷ []) plain
    (All-cons (λ b. is_line_end b ≡ false) byte [] end
    (All-nil (λ b. is_line_end b ≡ false))) in
    let bad : is_within room whole ≡ false = ap
    (λ (ps : List (List ℕ)). nat_le (length whole) room
    && list_all (λ p. nat_le (length p) 1024) ps) (slice_split_none is_line_end whole plain')
    ∙ over_line (length whole) (nat_le (length whole) room) longer in
    broken room front byte rest fails plain (omega arith) (omega arith) bad
    ∙ ap (λ (b : Bool). record { lines = []; last = Some (cond b FileTooLong LineTooLong) })
    (kind (length front) room lt)
  where
    kind : (n r : ℕ) → n < r → nat_lt r (n + 1) ≡ false
    kind n r lt = grind (arith, nat_tests)
