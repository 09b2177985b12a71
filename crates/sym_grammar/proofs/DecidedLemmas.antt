-- The result that bytes decide, and that of more bytes after them (for `InputLemmas`).
use Rattle.std.specs.Prelude.{⊤}
use Rattle.std.proofs.Common.{◌≡◌, ℕ, ◌^◌, ◌<◌, ◌==◌, not, cond, Bool, true, false, nat_lt, List, [], ◌∷◌, ◌++◌, length, Option, Some, None, Result, Ok, Err, refl, sym, ◌∙◌, ap, arith, append_assoc, length-append}
use Rattle.std.specs.List.{list_all}
use Rattle.std.proofs.lemmas.Bool.{lt-ltb}
use Rattle.std.proofs.lemmas.Bool.Decides.{nat_tests}
use Rattle.sym_edges.specs.Results.{◌>>=◌}
use Rattle.sym_rules.proofs.BoolLemmas.{both}
use Rattle.sym_rules.specs.Cuts.{is_within_line, onto, split_lines}
use Rattle.sym_rules.specs.declared.text_fault.TextFault.{TextFault}
use Rattle.sym_rules.specs.declared.text_fault.TextKind.TheVariants.{LongLine}
use Rattle.sym_records.specs.Reading.{Seen, next_number, with_text, numbered, with_lines}
use Rattle.sym_grammar.specs.Answer.{Part, but_last, last_line, whole_lines, open_line, IsUpToDate}
use Rattle.sym_edges.specs.Outside.{MatchStop}
use Rattle.sym_edges.specs.declared.fault.Stop.{Stop}
use Rattle.sym_edges.specs.declared.fault.Stop.TheVariants.{Fault, NoMemory}
use Rattle.sym_grammar.specs.internal.Parts.{Faults}
use Rattle.sym_grammar.specs.Input.{with_front, decided, IfNone}
use Rattle.sym_grammar.proofs.PieceLemmas.{split_byte, split_none, split_open, lines_of, with_cons, with_none, with_long, whole_is, open_is, decided_is}

-- The whole lines of a text with one more byte in front.
lf_whole : (b : ℕ) (zs : List ℕ) → (b == 10) ≡ true → whole_lines (b ∷ zs) ≡ [] ∷ whole_lines zs
unfolding but_last
lf_whole b zs is =
    let rest = lines_of zs in
    whole_is (b ∷ zs) ∙ ap but_last (split_byte b zs ∙ ap (λ t. cond t ([] ∷ split_lines zs) (onto b (split_lines zs))) is)
    ∙ ap (λ l. but_last ([] ∷ l)) rest.is ∙ ap (λ l. [] ∷ but_last l) (sym rest.is) ∙ ap (λ l. [] ∷ l) (sym (whole_is zs))

lf_open : (b : ℕ) (zs : List ℕ) → (b == 10) ≡ true → open_line (b ∷ zs) ≡ open_line zs
unfolding last_line
lf_open b zs is =
    let rest = lines_of zs in
    open_is (b ∷ zs) ∙ ap last_line (split_byte b zs ∙ ap (λ t. cond t ([] ∷ split_lines zs) (onto b (split_lines zs))) is)
    ∙ ap (λ l. last_line ([] ∷ l)) rest.is ∙ ap last_line (sym rest.is) ∙ sym (open_is zs)

byte_split : (b : ℕ) (zs first : List ℕ) (later : List (List ℕ)) → (b == 10) ≡ false → split_lines zs ≡ first ∷ later → split_lines (b ∷ zs) ≡ (b ∷ first) ∷ later
byte_split b zs first later past is = split_byte b zs ∙ ap (λ t. cond t ([] ∷ split_lines zs) (onto b (split_lines zs))) past ∙ ap (onto b) is

-- One more byte in front of a first line that has ended.
pub record Grown (b : ℕ) (zs f : List ℕ) (r : List (List ℕ)) : Type 0 where
  pub whole : whole_lines (b ∷ zs) ≡ (b ∷ f) ∷ r
  pub rest : open_line (b ∷ zs) ≡ open_line zs

grown_by : (b : ℕ) (zs f first : List ℕ) (r later : List (List ℕ)) → (b == 10) ≡ false → split_lines zs ≡ first ∷ later → but_last (first ∷ later) ≡ f ∷ r → Grown b zs f r
unfolding but_last last_line
grown_by b zs f first r [] past is whole = cc
grown_by b zs f first r (l ∷ ls) past is whole =
    let heads : first ≡ f = cc in
    let tails : but_last (l ∷ ls) ≡ r = cc in
    record {
      whole = whole_is (b ∷ zs) ∙ ap but_last (byte_split b zs first (l ∷ ls) past is) ∙ ap (λ h. (b ∷ h) ∷ but_last (l ∷ ls)) heads ∙ ap (λ t. (b ∷ f) ∷ t) tails;
      rest = open_is (b ∷ zs) ∙ ap last_line (byte_split b zs first (l ∷ ls) past is) ∙ sym (open_is zs ∙ ap last_line is);
    }

grown : (b : ℕ) (zs f : List ℕ) (r : List (List ℕ)) → (b == 10) ≡ false → whole_lines zs ≡ f ∷ r → Grown b zs f r
grown b zs f r past whole = let lines = lines_of zs in grown_by b zs f lines.first r lines.later past lines.is (ap but_last (sym lines.is) ∙ sym (whole_is zs) ∙ whole)

one_by : (b : ℕ) (zs first f : List ℕ) (l : List (List ℕ)) (t : Bool) → (b == 10) ≡ t → split_lines zs ≡ f ∷ l → (f ∷ [] ≡ f ∷ l → zs ≡ f) → split_lines (b ∷ zs) ≡ first ∷ [] → b ∷ zs ≡ first
one_by b zs first f l true is lines rest all =
    let past : [] ∷ (f ∷ l) ≡ first ∷ [] = sym (split_byte b zs ∙ ap (λ t. cond t ([] ∷ split_lines zs) (onto b (split_lines zs))) is ∙ ap (λ ls. [] ∷ ls) lines) ∙ all in
    cc
one_by b zs first f l false is lines rest all =
    let here : (b ∷ f) ∷ l ≡ first ∷ [] = sym (byte_split b zs f l is lines) ∙ all in
    let none : l ≡ [] = cc in
    let front : b ∷ f ≡ first = cc in
    ap (λ z. b ∷ z) (rest (ap (λ k. f ∷ k) (sym none))) ∙ front

one_line : (zs first : List ℕ) → split_lines zs ≡ first ∷ [] → zs ≡ first
one_line [] first is = let same : [] ∷ [] ≡ first ∷ [] = sym split_none ∙ is in cc
one_line (b ∷ zs) first is =
    let lines = lines_of zs in
    one_by b zs first lines.first lines.later (b == 10) refl lines.is (λ one. one_line zs lines.first (lines.is ∙ sym one)) is

-- The lines of two texts, one after the other.
pub record Joined (xs ys : List ℕ) : Type 0 where
  pub whole : whole_lines (xs ++ ys) ≡ whole_lines xs ++ whole_lines (open_line xs ++ ys)
  pub rest : open_line (xs ++ ys) ≡ open_line (open_line xs ++ ys)

joined_open : (b : ℕ) (xs ys first : List ℕ) (later : List (List ℕ)) → (b == 10) ≡ false → split_lines xs ≡ first ∷ later → Joined xs ys → Joined (b ∷ xs) ys
unfolding but_last last_line
joined_open b xs ys first [] past is joined =
    let same : xs ≡ first = one_line xs first is in
    let whole : whole_lines (b ∷ xs) ≡ [] = whole_is (b ∷ xs) ∙ ap but_last (byte_split b xs first [] past is) in
    let held : open_line (b ∷ xs) ≡ b ∷ xs = open_is (b ∷ xs) ∙ ap last_line (byte_split b xs first [] past is) ∙ ap (λ z. b ∷ z) (sym same) in
    record {
      whole = ap (λ h. whole_lines (h ++ ys)) (sym held) ∙ ap (λ w. w ++ whole_lines (open_line (b ∷ xs) ++ ys)) (sym whole);
      rest = ap (λ h. open_line (h ++ ys)) (sym held);
    }
joined_open b xs ys first (l ∷ ls) past is joined =
    let w : List (List ℕ) = but_last (l ∷ ls) in
    let whole : whole_lines xs ≡ first ∷ w = whole_is xs ∙ ap but_last is in
    let here : Grown b xs first w = grown b xs first w past whole in
    let all : whole_lines (xs ++ ys) ≡ first ∷ (w ++ whole_lines (open_line xs ++ ys)) = joined.whole ∙ ap (λ v. v ++ whole_lines (open_line xs ++ ys)) whole in
    let both_here : Grown b (xs ++ ys) first (w ++ whole_lines (open_line xs ++ ys)) = grown b (xs ++ ys) first (w ++ whole_lines (open_line xs ++ ys)) past all in
    record {
      whole = both_here.whole ∙ ap (λ v. v ++ whole_lines (open_line xs ++ ys)) (sym here.whole) ∙ ap (λ h. whole_lines (b ∷ xs) ++ whole_lines (h ++ ys)) (sym here.rest);
      rest = both_here.rest ∙ joined.rest ∙ ap (λ h. open_line (h ++ ys)) (sym here.rest);
    }

joined_lf : (b : ℕ) (xs ys : List ℕ) → (b == 10) ≡ true → Joined xs ys → Joined (b ∷ xs) ys
joined_lf b xs ys is joined = record {
  whole = lf_whole b (xs ++ ys) is ∙ ap (λ w. [] ∷ w) joined.whole ∙ ap (λ w. w ++ whole_lines (open_line xs ++ ys)) (sym (lf_whole b xs is))
      ∙ ap (λ h. whole_lines (b ∷ xs) ++ whole_lines (h ++ ys)) (sym (lf_open b xs is));
  rest = lf_open b (xs ++ ys) is ∙ joined.rest ∙ ap (λ h. open_line (h ++ ys)) (sym (lf_open b xs is));
}

joined_byte : (b : ℕ) (xs ys : List ℕ) (t : Bool) → (b == 10) ≡ t → Joined xs ys → Joined (b ∷ xs) ys
joined_byte b xs ys true is joined = joined_lf b xs ys is joined
joined_byte b xs ys false past joined = let lines = lines_of xs in joined_open b xs ys lines.first lines.later past lines.is joined

lines_joined : (xs ys : List ℕ) → Joined xs ys
unfolding whole_lines open_line split_lines but_last last_line
lines_joined [] ys = record { whole = refl; rest = refl }
lines_joined (b ∷ xs) ys = joined_byte b xs ys (b == 10) refl (lines_joined xs ys)

-- The bytes after the last LF have no LF.
open_grown : (b : ℕ) (xs first : List ℕ) (later : List (List ℕ)) → (b == 10) ≡ false → split_lines xs ≡ first ∷ later → list_all is_within_line (open_line xs) ≡ true → list_all is_within_line (open_line (b ∷ xs)) ≡ true
unfolding last_line
open_grown b xs first [] past is rest =
    ap (list_all is_within_line) (open_is (b ∷ xs) ∙ ap last_line (byte_split b xs first [] past is))
    ∙ both (ap not past) (ap (list_all is_within_line) (sym (open_is xs ∙ ap last_line is)) ∙ rest)
open_grown b xs first (l ∷ ls) past is rest =
    ap (list_all is_within_line) (open_is (b ∷ xs) ∙ ap last_line (byte_split b xs first (l ∷ ls) past is) ∙ sym (open_is xs ∙ ap last_line is)) ∙ rest

within_byte : (b : ℕ) (xs : List ℕ) (t : Bool) → (b == 10) ≡ t → list_all is_within_line (open_line xs) ≡ true → list_all is_within_line (open_line (b ∷ xs)) ≡ true
within_byte b xs true is rest = ap (list_all is_within_line) (lf_open b xs is) ∙ rest
within_byte b xs false past rest = let lines = lines_of xs in go lines.first lines.later lines.is
  where
    go : (first : List ℕ) (later : List (List ℕ)) → split_lines xs ≡ first ∷ later → list_all is_within_line (open_line (b ∷ xs)) ≡ true
    go first later is = open_grown b xs first later past is rest

open_within : (xs : List ℕ) → list_all is_within_line (open_line xs) ≡ true
unfolding open_line last_line split_lines
open_within [] = refl
open_within (b ∷ xs) = within_byte b xs (b == 10) refl (open_within xs)

read_on : (limit : ℕ) (r : Result Seen TextFault) (xs ys : List (List ℕ)) → ((s : Seen) → with_lines limit s (xs ++ ys) ≡ (with_lines limit s xs >>= λ t. with_lines limit t ys)) →
    (r >>= λ s. with_lines limit s (xs ++ ys)) ≡ ((r >>= λ s. with_lines limit s xs) >>= λ t. with_lines limit t ys)
read_on limit (Ok s) xs ys more = more s
read_on limit (Err fault) xs ys more = refl

lines_append : (limit : ℕ) (s : Seen) (xs ys : List (List ℕ)) → with_lines limit s (xs ++ ys) ≡ (with_lines limit s xs >>= λ t. with_lines limit t ys)
lines_append limit s [] ys = sym (ap (λ r. r >>= λ t. with_lines limit t ys) (with_none limit s))
lines_append limit s (x ∷ xs) ys =
    with_cons limit s x (xs ++ ys) ∙ read_on limit (numbered (next_number s.number) (with_text limit s x)) xs ys (λ t. lines_append limit t xs ys)
    ∙ ap (λ r. r >>= λ t. with_lines limit t ys) (sym (with_cons limit s x xs))

-- The start of a line that is not too long.
pub record Fronts (limit : ℕ) (r : Result Seen TextFault) (held : List ℕ) (part : Part) : Type 0 where
  pub seen : r ≡ Ok part.seen
  pub held_is : held ≡ part.held

front_ok : (limit : ℕ) (r : Result Seen TextFault) (held : List ℕ) (part : Part) → with_front limit r held ≡ Ok part → Fronts limit r held part
front_ok limit (Err fault) held part is = cc
front_ok limit (Ok seen) held part is = go (nat_lt limit (length held)) refl
  where
    go : (t : Bool) → nat_lt limit (length held) ≡ t → Fronts limit (Ok seen) held part
    go true long =
        let past : ◌≡◌ {A = Result Part TextFault} (Err (record { kind = LongLine; line = next_number seen.number })) (Ok part) =
        sym (ap (λ t. cond t (Err (record { kind = LongLine; line = next_number seen.number })) (Ok (record { seen = seen; held = held }))) long) ∙ is in
        cc
    go false short =
        let yes : ◌≡◌ {A = Result Part TextFault} (Ok (record { seen = seen; held = held })) (Ok part) =
        sym (ap (λ t. cond t (Err (record { kind = LongLine; line = next_number seen.number })) (Ok (record { seen = seen; held = held }))) short) ∙ is in
        let same : (let p : Part = record { seen = seen; held = held } in p) ≡ part = cc in
        record { seen = ap (λ (p : Part). Ok p.seen) same; held_is = ap (λ (p : Part). p.held) same }

-- The result of bytes, and of more bytes after them.
both_decided : (limit : ℕ) (part : Part) (xs ys : List ℕ) → decided limit part (xs ++ ys) ≡ with_front limit (with_lines limit part.seen (whole_lines (part.held ++ xs)) >>= λ t. with_lines limit t (whole_lines (open_line (part.held ++ xs) ++ ys))) (open_line (open_line (part.held ++ xs) ++ ys))
both_decided limit part xs ys =
    let a : List ℕ = part.held ++ xs in
    let joined : Joined a ys = lines_joined a ys in
    decided_is limit part (xs ++ ys)
    ∙ ap (λ z. with_front limit (with_lines limit part.seen (whole_lines z)) (open_line z)) (sym (append_assoc part.held xs ys))
    ∙ ap (λ w. with_front limit (with_lines limit part.seen w) (open_line (a ++ ys))) joined.whole
    ∙ ap (λ o. with_front limit (with_lines limit part.seen (whole_lines a ++ whole_lines (open_line a ++ ys))) o) joined.rest
    ∙ ap (λ r. with_front limit r (open_line (open_line a ++ ys))) (lines_append limit part.seen (whole_lines a) (whole_lines (open_line a ++ ys)))

pub decided_more : (limit : ℕ) (part mid : Part) (xs ys : List ℕ) → decided limit part xs ≡ Ok mid → decided limit part (xs ++ ys) ≡ decided limit mid ys
decided_more limit part mid xs ys is =
    let a : List ℕ = part.held ++ xs in
    let parts : Fronts limit (with_lines limit part.seen (whole_lines a)) (open_line a) mid = front_ok limit (with_lines limit part.seen (whole_lines a)) (open_line a) mid (sym (decided_is limit part xs) ∙ is) in
    both_decided limit part xs ys
    ∙ ap (λ r. with_front limit (r >>= λ t. with_lines limit t (whole_lines (open_line a ++ ys))) (open_line (open_line a ++ ys))) parts.seen
    ∙ ap (λ h. with_front limit (with_lines limit mid.seen (whole_lines (h ++ ys))) (open_line (h ++ ys))) parts.held_is
    ∙ sym (decided_is limit mid ys)

-- A line that is too long stays too long with more bytes.
abbrev too_long : Seen → Result Part TextFault
too_long seen = Err (record { kind = LongLine; line = next_number seen.number })

long_front : (limit : ℕ) (seen : Seen) (held : List ℕ) → limit < length held → with_front limit (Ok seen) held ≡ too_long seen
long_front limit seen held long = ap (λ t. cond t (too_long seen) (Ok (record { seen = seen; held = held }))) (lt-ltb limit (length held) long)

long_by : (limit : ℕ) (seen : Seen) (held ys first : List ℕ) (later : List (List ℕ)) → list_all is_within_line held ≡ true → limit < length held → split_lines ys ≡ first ∷ later →
    with_front limit (with_lines limit seen (whole_lines (held ++ ys))) (open_line (held ++ ys)) ≡ too_long seen
unfolding but_last last_line
long_by limit seen held ys first [] all long is =
    let lines : split_lines (held ++ ys) ≡ (held ++ first) ∷ [] = split_open held ys first [] all is in
    let whole : whole_lines (held ++ ys) ≡ [] = whole_is (held ++ ys) ∙ ap but_last lines in
    let front : open_line (held ++ ys) ≡ held ++ first = open_is (held ++ ys) ∙ ap last_line lines in
    ap (λ w. with_front limit (with_lines limit seen w) (open_line (held ++ ys))) whole ∙ ap (λ r. with_front limit r (open_line (held ++ ys))) (with_none limit seen)
    ∙ ap (with_front limit (Ok seen)) front ∙ long_front limit seen (held ++ first) (omega (arith, long, length-append held first))
long_by limit seen held ys first (l ∷ ls) all long is =
    let lines : split_lines (held ++ ys) ≡ (held ++ first) ∷ l ∷ ls = split_open held ys first (l ∷ ls) all is in
    let whole : whole_lines (held ++ ys) ≡ (held ++ first) ∷ but_last (l ∷ ls) = whole_is (held ++ ys) ∙ ap but_last lines in
    ap (λ w. with_front limit (with_lines limit seen w) (open_line (held ++ ys))) whole
    ∙ ap (λ r. with_front limit r (open_line (held ++ ys))) (with_cons limit seen (held ++ first) (but_last (l ∷ ls)))
    ∙ ap (λ r. with_front limit (numbered (next_number seen.number) r >>= λ t. with_lines limit t (but_last (l ∷ ls))) (open_line (held ++ ys))) (with_long limit seen (held ++ first) (omega (arith, long, length-append held first)))

long_more : (limit : ℕ) (seen : Seen) (held ys : List ℕ) → list_all is_within_line held ≡ true → limit < length held → with_front limit (with_lines limit seen (whole_lines (held ++ ys))) (open_line (held ++ ys)) ≡ too_long seen
long_more limit seen held ys all long = let lines = lines_of ys in go lines.first lines.later lines.is
  where
    go : (first : List ℕ) (later : List (List ℕ)) → split_lines ys ≡ first ∷ later → with_front limit (with_lines limit seen (whole_lines (held ++ ys))) (open_line (held ++ ys)) ≡ too_long seen
    go first later is = long_by limit seen held ys first later all long is

stays_by : (limit : ℕ) (r : Result Seen TextFault) (held ys : List ℕ) (fault : TextFault) → list_all is_within_line held ≡ true → with_front limit r held ≡ Err fault →
    with_front limit (r >>= λ t. with_lines limit t (whole_lines (held ++ ys))) (open_line (held ++ ys)) ≡ Err fault
stays_by limit (Err other) held ys fault all is = is
stays_by limit (Ok seen) held ys fault all is = go (nat_lt limit (length held)) refl
  where
    go : (t : Bool) → nat_lt limit (length held) ≡ t → with_front limit (with_lines limit seen (whole_lines (held ++ ys))) (open_line (held ++ ys)) ≡ Err fault
    go true long = long_more limit seen held ys all (grind (arith, nat_tests)) ∙ sym (ap (λ t. cond t (too_long seen) (Ok (record { seen = seen; held = held }))) long) ∙ is
    go false short =
        let past : ◌≡◌ {A = Result Part TextFault} (Ok (record { seen = seen; held = held })) (Err fault) = sym (ap (λ t. cond t (too_long seen) (Ok (record { seen = seen; held = held }))) short) ∙ is in
        cc

pub decided_stays : (limit : ℕ) (part : Part) (xs ys : List ℕ) (fault : TextFault) → decided limit part xs ≡ Err fault → decided limit part (xs ++ ys) ≡ Err fault
decided_stays limit part xs ys fault is =
    let a : List ℕ = part.held ++ xs in
    both_decided limit part xs ys ∙ stays_by limit (with_lines limit part.seen (whole_lines a)) (open_line a) ys fault (open_within a) (sym (decided_is limit part xs) ∙ is)

-- The result that the bytes so far decide is in the reader.
pub decided_up : (limit : ℕ) (old new : Part) (piece : List ℕ) → IsUpToDate limit old piece new → decided limit old piece ≡ Ok new
decided_up limit old new piece up =
    let short : nat_lt limit (length new.held) ≡ false = (let le = up.short in grind (arith, nat_tests)) in
    decided_is limit old piece ∙ ap (λ r. with_front limit r (open_line (old.held ++ piece))) up.lines ∙ ap (with_front limit (Ok new.seen)) (sym up.held)
    ∙ ap (λ t. cond t (too_long new.seen) (Ok (record { seen = new.seen; held = new.held }))) short

pub decided_stop : {A : Type 0} (B : Type 0) (stop : Stop TextFault) (part : Part) (piece : List ℕ) (P : A → Type 0) (Q : B → Type 0) → MatchStop {A = A} (Err stop) P (λ fault. Faults (2 ^ 20) part piece fault) ⊤ → MatchStop {A = B} (Err stop) Q (λ fault. decided (2 ^ 20) part piece ≡ Err fault) ⊤
decided_stop B (Fault fault) part piece P Q is = is.decides
decided_stop B NoMemory part piece P Q is = tt

-- The same for a reader that was not stopped before.
pub ok_decided : {X : Type 0} (limit : ℕ) (s : Option X) (old new : Part) (piece : List ℕ) → IsUpToDate limit old piece new → IfNone s (decided limit old piece ≡ Ok new)
ok_decided limit None old new piece up = decided_up limit old new piece up
ok_decided limit (Some x) old new piece up = tt

pub stop_decided : {X A B : Type 0} (stop : Stop TextFault) (s : Option X) (part : Part) (piece : List ℕ) (P : A → Type 0) (Q : B → Type 0) → MatchStop {A = A} (Err stop) P (λ fault. Faults (2 ^ 20) part piece fault) ⊤ → IfNone s (MatchStop {A = B} (Err stop) Q (λ fault. decided (2 ^ 20) part piece ≡ Err fault) ⊤)
stop_decided {B = B} stop None part piece P Q is = decided_stop B stop part piece P Q is
stop_decided stop (Some x) part piece P Q is = tt
