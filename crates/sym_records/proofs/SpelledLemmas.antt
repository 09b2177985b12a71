-- The canonical spelling of valid records is their canonical text.
use Rattle.std.proofs.Common.{◌≡◌, ℕ, List, [], ◌∷◌, ◌++◌, Option, None, Ok, Err, sym, ◌∙◌, ap, append_assoc, append-nil}
use Rattle.std.specs.List.{flat_map}
use Rattle.std.proofs.lemmas.List.Concat.{flat_map-append}
use Rattle.sym_edges.specs.Outside.{append_told, AddsFront}
use Rattle.sym_rules.proofs.BufferLemmas.{hands_whole, hands_not_on, hands_front}
use Rattle.sym_rules.specs.Buffer.{Hands}
use Rattle.sym_records.proofs.ReadingLemmas.{reads_back}
use Rattle.sym_records.proofs.ValidityLemmas.{none_valid}
use Rattle.sym_records.specs.Canon.{canon, canon_text}
use Rattle.sym_records.specs.Reading.{reading}
use Rattle.sym_records.specs.Spelled.{records_or_none, records_in, IsSpelled}
use Rattle.sym_records.specs.Validity.{first_bad}
use Rattle.sym_records.specs.declared.line.SymLine.{SymLine}

-- The records of a text that was spelled from valid records are these.
pub spelled_records : (lines : List SymLine) (bytes : List ℕ) → first_bad lines ≡ None → bytes ≡ canon_text lines → records_in bytes ≡ lines
unfolding records_in
spelled_records lines bytes valid made = ap (λ l. records_or_none (reading l)) made ∙ ap records_or_none (reads_back lines (none_valid lines valid))

pub spelled : (lines : List SymLine) (bytes : List ℕ) → first_bad lines ≡ None → bytes ≡ canon_text lines → IsSpelled bytes
spelled lines bytes valid made = record {
  canonical = ap canon_text (spelled_records lines bytes valid made) ∙ sym made;
  valid = ap first_bad (spelled_records lines bytes valid made) ∙ valid;
}

pub spelled_reads : (bytes : List ℕ) (lines : List SymLine) → IsSpelled bytes → records_in bytes ≡ lines → reading (canon_text lines) ≡ Ok lines
spelled_reads bytes lines is same = reads_back lines (none_valid lines (ap first_bad (sym same) ∙ is.valid))

text_is : (bytes : List ℕ) (lines : List SymLine) → IsSpelled bytes → records_in bytes ≡ lines → bytes ≡ canon_text lines
text_is bytes lines is same = sym is.canonical ∙ ap canon_text same

-- The result after the whole text was put and the bytes that wait were handed on.
pub wrote_all : {A F : Type 0} (x : A) (a b c : Option (List ℕ)) (f g : ℕ) (w bytes v : List ℕ) (lines : List SymLine) → IsSpelled bytes → records_in bytes ≡ lines → w ≡ [] → Hands {A = A} {F = F} (Ok x) a f w bytes b g v → c ≡ append_told b v → c ≡ append_told a (canon_text lines)
wrote_all {A = A} {F = F} x a b c f g w bytes v lines is same none all told = hands_whole {A = A} {F = F} x a b c f g w (canon_text lines) bytes v none (text_is bytes lines is same) all told

pub wrote_not_on : {A F : Type 0} (x : A) (a b c : Option (List ℕ)) (f g : ℕ) (w bytes v : List ℕ) (lines : List SymLine) → IsSpelled bytes → records_in bytes ≡ lines → w ≡ [] → Hands {A = A} {F = F} (Ok x) a f w bytes b g v → AddsFront b c v → AddsFront a c (canon_text lines)
wrote_not_on {A = A} {F = F} x a b c f g w bytes v lines is same none all front = hands_not_on {A = A} {F = F} x a b c f g w (canon_text lines) bytes v none (text_is bytes lines is same) all front

pub wrote_front : {A F : Type 0} (e : F) (a c : Option (List ℕ)) (f g : ℕ) (w bytes v : List ℕ) (lines : List SymLine) → IsSpelled bytes → records_in bytes ≡ lines → w ≡ [] → Hands {A = A} {F = F} (Err e) a f w bytes c g v → AddsFront a c (canon_text lines)
wrote_front {A = A} {F = F} e a c f g w bytes v lines is same none off = hands_front {A = A} {F = F} e a c f g w (canon_text lines) bytes v none (text_is bytes lines is same) off

-- The last piece becomes a full one.
pub turned : (pieces more : List (List ℕ)) (last none : List ℕ) → more ≡ pieces ++ last ∷ [] → none ≡ [] → flat_map (λ piece. piece) more ++ none ≡ flat_map (λ piece. piece) pieces ++ last
turned pieces more last none is empty =
    ap (λ l. flat_map (λ piece. piece) l ++ none) is ∙ ap (λ l. flat_map (λ piece. piece) (pieces ++ last ∷ []) ++ l) empty ∙ append-nil _
    ∙ flat_map-append (λ piece. piece) pieces (last ∷ []) ∙ ap (λ l. flat_map (λ piece. piece) pieces ++ l) (append-nil last)

-- One text after another.
pub joined : (front rest more whole : List (List ℕ)) (middle last : List ℕ) → more ≡ front ++ middle ∷ [] → whole ≡ more ++ rest → flat_map (λ piece. piece) whole ++ last ≡ (flat_map (λ piece. piece) front ++ middle) ++ (flat_map (λ piece. piece) rest ++ last)
joined front rest more whole middle last pushed appended =
    let pieces : List (List ℕ) → List ℕ = flat_map (λ piece. piece) in
    ap (λ l. pieces l ++ last) (appended ∙ ap (λ l. l ++ rest) pushed)
    ∙ ap (λ l. l ++ last) (flat_map-append (λ piece. piece) (front ++ middle ∷ []) rest ∙ ap (λ l. l ++ pieces rest) (flat_map-append (λ piece. piece) front (middle ∷ []) ∙ ap (λ l. pieces front ++ l) (append-nil middle)))
    ∙ append_assoc (pieces front ++ middle) (pieces rest) last

-- One more record is one more line.
pub text_pushed : (lines : List SymLine) (s : SymLine) → canon_text (lines ++ s ∷ []) ≡ canon_text lines ++ canon s
unfolding canon_text
text_pushed lines s = flat_map-append canon lines (s ∷ []) ∙ ap (λ l. flat_map canon lines ++ l) (append-nil (canon s))

pub text_grown : (full last more new : List ℕ) → new ≡ last ++ more → full ++ new ≡ (full ++ last) ++ more
text_grown full last more new is = ap (λ l. full ++ l) is ∙ sym (append_assoc full last more)
