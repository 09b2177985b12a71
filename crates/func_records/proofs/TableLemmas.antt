-- The records of the paths and the names in use, as they are spelled.
use Rattle.std.proofs.Common.{◌≡◌, ℕ, zero, suc, ◌+◌, ◌<◌, true, length, take, List, [], ◌∷◌, ◌++◌, None, Some, arith, sym, ap, subst, ◌∙◌, refl, Bor, append_assoc, append-nil}
use Rattle.std.specs.List.{slice_get}
use Rattle.std.proofs.lemmas.Option.{slice_get_within}
use Rattle.std.proofs.lemmas.List.{length-take-le}
use Rattle.sym_records.specs.Canon.{canon, canon_text}
use Rattle.clean_names.specs.Cleaning.{cleaned}
use Rattle.sym_records.specs.Reading.{fits, leads}
use Rattle.sym_records.specs.Validity.{fields_fit, first_bad_from}
use Rattle.sym_records.specs.declared.place.Place.TheVariants.{Inside}
use Rattle.sym_records.specs.declared.line.SymLine.{SymLine}
use Rattle.sym_records.proofs.JoiningLemmas.{from_here, join_behind}
use Rattle.func_records.specs.FuncRecords.{numbered_lines}
use Rattle.func_records.specs.internal.Gathering.{bytes_of}
use Rattle.func_records.specs.internal.Numbering.{numbered}
use Rattle.clean_names.specs.Cleaning.{AreClean}
use Rattle.func_records.specs.declared.text_numbers.Numbering.{Numbering}
use Rattle.func_records.specs.declared.text_numbers.Numbering.TheVariants as by
use Rattle.func_records.proofs.ListLemmas.{take_more}
use Rattle.func_records.proofs.CanonLemmas.{canon_none, canon_join, canon_more, none_here}

-- One record more.
lines_push : (made : ℕ → List ℕ → SymLine) (k : ℕ) (texts : List (List ℕ)) (text : List ℕ) → numbered_lines made k (texts ++ text ∷ []) ≡ numbered_lines made k texts ++ made (k + length texts) text ∷ []
lines_push made k [] text = ap (λ n. made n text ∷ []) (omega arith)
lines_push made k (t ∷ texts) text =
    ap (λ l. made k t ∷ l) (lines_push made (k + 1) texts text ∙ ap (λ n. numbered_lines made (k + 1) texts ++ made n text ∷ []) (omega arith))

lines_more : (made : ℕ → List ℕ → SymLine) (texts : List (List ℕ)) (n : ℕ) (text : List ℕ) → slice_get texts n ≡ Some text → numbered_lines made 0 (take (n + 1) texts) ≡ numbered_lines made 0 (take n texts) ++ made n text ∷ []
lines_more made texts n text is =
    let below : n < length texts = slice_get_within texts n text is in
    let count : length (take n texts) ≡ n = length-take-le n texts (omega arith) in
    ap (numbered_lines made 0) (take_more texts n text is) ∙ lines_push made 0 (take n texts) text ∙ ap (λ k. numbered_lines made 0 (take n texts) ++ made k text ∷ []) (omega (arith, count))

clean_at : (texts : List (List ℕ)) (n : ℕ) (text : List ℕ) → AreClean texts → slice_get texts n ≡ Some text → cleaned text ≡ text
clean_at [] n text clean is = absurd (cc)
clean_at (t ∷ texts) zero text clean is = subst (λ (q : List ℕ). cleaned q ≡ q) (let same : t ≡ text = cc in same) clean.0
clean_at (t ∷ texts) (suc n) text clean is = clean_at texts n text clean.1 is

bytes_at : (xs : List (Bor (List ℕ))) (n : ℕ) (x : Bor (List ℕ)) → slice_get xs n ≡ Some x → slice_get (bytes_of xs) n ≡ Some x.now
bytes_at [] n x is = absurd (cc)
bytes_at (y ∷ xs) zero x is = ap (λ z. Some z.now) (let same : y ≡ x = cc in same)
bytes_at (y ∷ xs) (suc n) x is = bytes_at xs n x is

pub line_text : (made : ℕ → List ℕ → SymLine) (xs : List (Bor (List ℕ))) (n : ℕ) (x : Bor (List ℕ)) (full old mid last after new : List ℕ) → AreClean (bytes_of xs) → slice_get xs n ≡ Some x → full ++ mid ≡ old ++ canon_text (numbered_lines made 0 (take n (bytes_of xs))) → last ≡ mid ++ canon (made n (cleaned x.now)) → after ≡ full ++ last → new ≡ after → new ≡ old ++ canon_text (numbered_lines made 0 (take (n + 1) (bytes_of xs)))
line_text made xs n x full old mid last after new clean is so added all turned =
    let text = bytes_at xs n x is in
    let front : List SymLine = numbered_lines made 0 (take n (bytes_of xs)) in
    turned ∙ all ∙ ap (λ t. full ++ t) added ∙ sym (append_assoc full mid (canon (made n (cleaned x.now)))) ∙ ap (λ t. t ++ canon (made n (cleaned x.now))) so
    ∙ append_assoc old (canon_text front) (canon (made n (cleaned x.now)))
    ∙ ap (λ t. old ++ t) (ap (λ q. canon_text front ++ canon (made n q)) (clean_at (bytes_of xs) n x.now clean text)
    ∙ ap (λ t. canon_text front ++ t) (sym (canon_more (made n x.now) [] ∙ ap (λ t. canon (made n x.now) ++ t) canon_none ∙ append-nil (canon (made n x.now))))
    ∙ sym (canon_join front (made n x.now ∷ []))
    ∙ sym (ap canon_text (lines_more made (bytes_of xs) n x.now text)))

-- Such a record may be anywhere in a text.
pub stands_inside : (numbering : Numbering) (number : ℕ) (text : List ℕ) → fits Inside (numbered numbering number text) ≡ true
stands_inside by.Files number text = refl
stands_inside by.Origins number text = refl

pub line_fit : (made : ℕ → List ℕ → SymLine) (xs : List (Bor (List ℕ))) (n : ℕ) (x : Bor (List ℕ)) → ((number : ℕ) (text : List ℕ) → fits Inside (made number text) ≡ true) → AreClean (bytes_of xs) → slice_get xs n ≡ Some x → first_bad_from 0 Inside (numbered_lines made 0 (take n (bytes_of xs))) ≡ None → fields_fit (made n (cleaned x.now)) ≡ true → first_bad_from 0 Inside (numbered_lines made 0 (take (n + 1) (bytes_of xs))) ≡ None
line_fit made xs n x stands clean is so fit =
    let text = bytes_at xs n x is in
    let good : fields_fit (made n x.now) ≡ true = subst (λ q. fields_fit (made n q) ≡ true) (clean_at (bytes_of xs) n x.now clean text) fit in
    let last : first_bad_from 0 Inside (made n x.now ∷ []) ≡ None = from_here 0 Inside (made n x.now) [] (stands n x.now) good (none_here 1 (leads Inside (made n x.now))) in
    ap (first_bad_from 0 Inside) (lines_more made (bytes_of xs) n x.now text)
    ∙ join_behind (numbered_lines made 0 (take n (bytes_of xs))) (made n x.now ∷ []) so last
