-- Two pieces that were fed one after the other are like one piece.
use Rattle.std.proofs.Common.{◌≡◌, ℕ, ◌==◌, cond, true, false, List, [], ◌∷◌, ◌++◌, Result, Ok, Err, refl, sym, ◌∙◌, ap, append_assoc}
use Rattle.sym_edges.specs.Results.{◌>>=◌}
use Rattle.sym_rules.proofs.BoolLemmas.{elim_bool}
use Rattle.sym_rules.specs.Cuts.{onto, split_lines}
use Rattle.sym_records.specs.Reading.{Seen, next_number, with_text, numbered, with_lines}
use Rattle.sym_rules.specs.declared.text_fault.TextFault.{TextFault}
use Rattle.sym_grammar.proofs.PieceLemmas.{lines_of, split_none, split_byte, with_cons, with_none}
use Rattle.sym_grammar.specs.Answer.{Part, but_last, last_line, whole_lines, open_line, IsUpToDate}

but_last_cons : (x y : List ℕ) (ys : List (List ℕ)) → but_last (x ∷ y ∷ ys) ≡ x ∷ but_last (y ∷ ys)
unfolding but_last
but_last_cons x y ys = refl

but_last_one : (x : List ℕ) → but_last (x ∷ []) ≡ []
unfolding but_last
but_last_one x = refl

last_cons : (x y : List ℕ) (ys : List (List ℕ)) → last_line (x ∷ y ∷ ys) ≡ last_line (y ∷ ys)
unfolding last_line
last_cons x y ys = refl

last_one : (x : List ℕ) → last_line (x ∷ []) ≡ x
unfolding last_line
last_one x = refl

abbrev joined : List (List ℕ) → List ℕ → List (List ℕ)
joined lines ys = but_last lines ++ split_lines (last_line lines ++ ys)

split_on : (x : ℕ) (xs : List ℕ) → (x == 10) ≡ false → split_lines (x ∷ xs) ≡ onto x (split_lines xs)
split_on x xs is = split_byte x xs ∙ ap (λ t. cond t ([] ∷ split_lines xs) (onto x (split_lines xs))) is

split_at : (x : ℕ) (xs : List ℕ) → (x == 10) ≡ true → split_lines (x ∷ xs) ≡ [] ∷ split_lines xs
split_at x xs is = split_byte x xs ∙ ap (λ t. cond t ([] ∷ split_lines xs) (onto x (split_lines xs))) is

joined_end : (first : List ℕ) (later : List (List ℕ)) (ys : List ℕ) → [] ∷ joined (first ∷ later) ys ≡ joined ([] ∷ first ∷ later) ys
joined_end first later ys =
    ap (λ l. l ++ split_lines (last_line (first ∷ later) ++ ys)) (sym (but_last_cons [] first later))
    ∙ ap (λ l. but_last ([] ∷ first ∷ later) ++ split_lines (l ++ ys)) (sym (last_cons [] first later))

joined_on : (x : ℕ) (first : List ℕ) (later : List (List ℕ)) (ys : List ℕ) → (x == 10) ≡ false → onto x (joined (first ∷ later) ys) ≡ joined ((x ∷ first) ∷ later) ys
joined_on x first [] ys is =
    ap (λ l. onto x (l ++ split_lines (last_line (first ∷ []) ++ ys))) (but_last_one first)
    ∙ ap (λ l. onto x (split_lines (l ++ ys))) (last_one first)
    ∙ sym (split_on x (first ++ ys) is)
    ∙ ap (λ l. split_lines (l ++ ys)) (sym (last_one (x ∷ first)))
    ∙ ap (λ l. l ++ split_lines (last_line ((x ∷ first) ∷ []) ++ ys)) (sym (but_last_one (x ∷ first)))
joined_on x first (y ∷ later) ys is =
    ap (λ l. onto x (l ++ split_lines (last_line (first ∷ y ∷ later) ++ ys))) (but_last_cons first y later)
    ∙ ap (λ l. (x ∷ first) ∷ (but_last (y ∷ later) ++ split_lines (l ++ ys))) (last_cons first y later ∙ sym (last_cons (x ∷ first) y later))
    ∙ ap (λ l. l ++ split_lines (last_line ((x ∷ first) ∷ y ∷ later) ++ ys)) (sym (but_last_cons (x ∷ first) y later))

-- The lines of two texts, one after the other.
split_both : (xs ys : List ℕ) → split_lines (xs ++ ys) ≡ joined (split_lines xs) ys
split_both [] ys =
    ap (λ l. split_lines (l ++ ys)) (sym (last_one [])) ∙ ap (λ l. l ++ split_lines (last_line ([] ∷ []) ++ ys)) (sym (but_last_one []))
    ∙ ap (λ l. joined l ys) (sym split_none)
split_both (x ∷ xs) ys =
    let lines = lines_of xs in
    elim_bool (x == 10) (λ t. (x == 10) ≡ t → split_lines (x ∷ (xs ++ ys)) ≡ joined (split_lines (x ∷ xs)) ys)
    (λ _ is. split_at x (xs ++ ys) is ∙ ap (λ l. [] ∷ l) (split_both xs ys) ∙ ap (λ l. [] ∷ joined l ys) lines.is ∙ joined_end lines.first lines.later ys
    ∙ ap (λ l. joined ([] ∷ l) ys) (sym lines.is) ∙ ap (λ l. joined l ys) (sym (split_at x xs is)))
    (λ _ is. split_on x (xs ++ ys) is ∙ ap (onto x) (split_both xs ys) ∙ ap (λ l. onto x (joined l ys)) lines.is ∙ joined_on x lines.first lines.later ys is
    ∙ ap (λ l. joined (onto x l) ys) (sym lines.is) ∙ ap (λ l. joined l ys) (sym (split_on x xs is))) refl

but_last_both : (xs : List (List ℕ)) (y : List ℕ) (ys : List (List ℕ)) → but_last (xs ++ y ∷ ys) ≡ xs ++ but_last (y ∷ ys)
but_last_both [] y ys = refl
but_last_both (x ∷ []) y ys = but_last_cons x y ys
but_last_both (x ∷ z ∷ xs) y ys = but_last_cons x z (xs ++ y ∷ ys) ∙ ap (λ l. x ∷ l) (but_last_both (z ∷ xs) y ys)

last_both : (xs : List (List ℕ)) (y : List ℕ) (ys : List (List ℕ)) → last_line (xs ++ y ∷ ys) ≡ last_line (y ∷ ys)
last_both [] y ys = refl
last_both (x ∷ []) y ys = last_cons x y ys
last_both (x ∷ z ∷ xs) y ys = last_cons x z (xs ++ y ∷ ys) ∙ last_both (z ∷ xs) y ys

whole_is : (bytes : List ℕ) → whole_lines bytes ≡ but_last (split_lines bytes)
unfolding whole_lines
whole_is bytes = refl

open_is : (bytes : List ℕ) → open_line bytes ≡ last_line (split_lines bytes)
unfolding open_line
open_is bytes = refl

whole_both : (xs ys : List ℕ) → whole_lines (xs ++ ys) ≡ whole_lines xs ++ whole_lines (open_line xs ++ ys)
whole_both xs ys =
    let rest = lines_of (last_line (split_lines xs) ++ ys) in
    whole_is (xs ++ ys) ∙ ap but_last (split_both xs ys)
    ∙ ap (λ l. but_last (but_last (split_lines xs) ++ l)) rest.is ∙ but_last_both (but_last (split_lines xs)) rest.first rest.later
    ∙ ap (λ l. but_last (split_lines xs) ++ but_last l) (sym rest.is)
    ∙ ap (λ l. but_last (split_lines xs) ++ l) (sym (whole_is (last_line (split_lines xs) ++ ys)))
    ∙ ap (λ l. l ++ whole_lines (last_line (split_lines xs) ++ ys)) (sym (whole_is xs))
    ∙ ap (λ l. whole_lines xs ++ whole_lines (l ++ ys)) (sym (open_is xs))

open_both : (xs ys : List ℕ) → open_line (xs ++ ys) ≡ open_line (open_line xs ++ ys)
open_both xs ys =
    let rest = lines_of (last_line (split_lines xs) ++ ys) in
    open_is (xs ++ ys) ∙ ap last_line (split_both xs ys)
    ∙ ap (λ l. last_line (but_last (split_lines xs) ++ l)) rest.is ∙ last_both (but_last (split_lines xs)) rest.first rest.later
    ∙ ap last_line (sym rest.is) ∙ sym (open_is (last_line (split_lines xs) ++ ys)) ∙ ap (λ l. open_line (l ++ ys)) (sym (open_is xs))

bind_assoc : (r : Result Seen TextFault) (f g : Seen → Result Seen TextFault) → (r >>= λ x. f x >>= g) ≡ ((r >>= f) >>= g)
bind_assoc (Ok x) f g = refl
bind_assoc (Err fault) f g = refl

under : (r : Result Seen TextFault) (f g : Seen → Result Seen TextFault) → ((x : Seen) → f x ≡ g x) → (r >>= f) ≡ (r >>= g)
under (Ok x) f g same = same x
under (Err fault) f g same = refl

with_both : (limit : ℕ) (seen : Seen) (xs ys : List (List ℕ)) → with_lines limit seen (xs ++ ys) ≡ (with_lines limit seen xs >>= λ after. with_lines limit after ys)
with_both limit seen [] ys = ap (λ r. r >>= λ after. with_lines limit after ys) (sym (with_none limit seen))
with_both limit seen (x ∷ xs) ys =
    with_cons limit seen x (xs ++ ys)
    ∙ under (numbered (next_number seen.number) (with_text limit seen x)) (λ after. with_lines limit after (xs ++ ys)) (λ after. with_lines limit after xs >>= λ last. with_lines limit last ys) (λ after. with_both limit after xs ys)
    ∙ bind_assoc (numbered (next_number seen.number) (with_text limit seen x)) (λ after. with_lines limit after xs) (λ after. with_lines limit after ys)
    ∙ ap (λ r. r >>= λ after. with_lines limit after ys) (sym (with_cons limit seen x xs))

pub both_up : (limit : ℕ) (a b c : Part) (p q : List ℕ) → IsUpToDate limit a p b → IsUpToDate limit b q c → IsUpToDate limit a (p ++ q) c
both_up limit a b c p q first second =
    let all : a.held ++ (p ++ q) ≡ (a.held ++ p) ++ q = sym (append_assoc a.held p q) in
    record {
      lines = ap (λ l. with_lines limit a.seen (whole_lines l)) all
          ∙ ap (with_lines limit a.seen) (whole_both (a.held ++ p) q ∙ ap (λ h. whole_lines (a.held ++ p) ++ whole_lines (h ++ q)) (sym first.held))
          ∙ with_both limit a.seen (whole_lines (a.held ++ p)) (whole_lines (b.held ++ q))
          ∙ ap (λ r. r >>= λ after. with_lines limit after (whole_lines (b.held ++ q))) first.lines
          ∙ second.lines;
      held = second.held ∙ ap (λ h. open_line (h ++ q)) first.held ∙ sym (open_both (a.held ++ p) q) ∙ ap open_line (sym all);
      short = second.short;
    }
