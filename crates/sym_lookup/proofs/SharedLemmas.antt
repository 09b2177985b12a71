-- Texts in parts that are stored once.
use Rattle.std.proofs.Common.{◌≡◌, ℕ, zero, suc, ◌-◌, ◌<◌, ◌≤◌, List, [], ◌∷◌, ◌++◌, length, take, drop, get_or, arith, refl, sym, ap, ◌∙◌, subst, append-nil, length-append}
use Rattle.std.proofs.lemmas.List.{take-append-le, take_all, drop-append-le, length-drop}
use Rattle.std.proofs.lemmas.List.Concat.{flat_map-append}
use Rattle.std.proofs.Math.Seq.{drop-append_seam}
use Rattle.sym_lookup.specs.declared.shared_text.Part.{Part}
use Rattle.sym_lookup.specs.internal.SharedTexts.{part_text, parts_text, AreWithin}

within_more : (n m : ℕ) (parts : List Part) → n ≤ m → AreWithin n parts → AreWithin m parts
within_more n m [] less all = tt
within_more n m (p ∷ parts) less all = (all.0, omega (arith, less, all.1), within_more n m parts less all.2)

within_joined : (n : ℕ) (xs ys : List Part) → AreWithin n xs → AreWithin n ys → AreWithin n (xs ++ ys)
within_joined n [] ys p q = q
within_joined n (x ∷ xs) ys p q = (p.0, p.1, within_joined n xs ys p.2 q)

pub within_one : (n : ℕ) (parts : List Part) (i : ℕ) (p : Part) → i < length parts → p ≡ get_or parts i p → AreWithin n parts → (p.start ≤ p.end) × (p.end ≤ n)
within_one n [] i p inside is all = absurd (omega arith)
within_one n (q ∷ parts) zero p inside is all = subst (λ (r : Part). (r.start ≤ r.end) × (r.end ≤ n)) (sym is) (all.0, all.1)
within_one n (q ∷ parts) (suc i) p inside is all = within_one n parts i p (omega arith) is all.2

-- More bytes behind those of a part do not change it.
part_kept : (bytes more : List ℕ) (p : Part) → p.start ≤ p.end → p.end ≤ length bytes → part_text (bytes ++ more) p ≡ part_text bytes p
part_kept bytes more p order inside =
    ap (take (p.end - p.start)) (drop-append-le p.start bytes more (omega (arith, order, inside)))
    ∙ take-append-le (p.end - p.start) (drop p.start bytes) more (omega (arith, order, inside, length-drop p.start bytes))

parts_kept : (bytes more : List ℕ) (parts : List Part) → AreWithin (length bytes) parts → parts_text (bytes ++ more) parts ≡ parts_text bytes parts
parts_kept bytes more [] all = refl
parts_kept bytes more (p ∷ parts) all =
    ap (λ l. l ++ parts_text (bytes ++ more) parts) (part_kept bytes more p all.0 all.1) ∙ ap (λ l. part_text bytes p ++ l) (parts_kept bytes more parts all.2)

-- One more part.
pub added_text : (bytes more : List ℕ) (parts news : List Part) (p : Part) → part_text bytes p ≡ more → news ≡ parts ++ p ∷ [] → parts_text bytes news ≡ parts_text bytes parts ++ more
added_text bytes more parts news p is added =
    ap (parts_text bytes) added ∙ flat_map-append (part_text bytes) parts (p ∷ []) ∙ ap (λ l. parts_text bytes parts ++ l) (append-nil (part_text bytes p) ∙ is)

pub added_within : (n : ℕ) (parts news : List Part) (p : Part) → (p.start ≤ p.end) × (p.end ≤ n) → news ≡ parts ++ p ∷ [] → AreWithin n parts → AreWithin n news
added_within n parts news p inside added all = subst (AreWithin n) (sym added) (within_joined n parts (p ∷ []) all (inside.0, inside.1, tt))

-- One more part whose bytes were added.
new_part : (bytes more new : List ℕ) (p : Part) → new ≡ bytes ++ more → p.start ≡ length bytes → p.end ≡ length new → part_text new p ≡ more
new_part bytes more new p is start end =
    ap (λ n. take (n - p.start) (drop p.start new)) end
    ∙ ap (λ n. take (length new - n) (drop n new)) start
    ∙ ap (λ l. take (length l - length bytes) (drop (length bytes) l)) is
    ∙ ap (take (length (bytes ++ more) - length bytes)) (drop-append_seam bytes more)
    ∙ take_all (length (bytes ++ more) - length bytes) more (omega (arith, length-append bytes more))

pub pushed_text : (bytes more new : List ℕ) (parts news : List Part) (p : Part) → AreWithin (length bytes) parts → new ≡ bytes ++ more → news ≡ parts ++ p ∷ [] → p.start ≡ length bytes → p.end ≡ length new → parts_text new news ≡ parts_text bytes parts ++ more
pushed_text bytes more new parts news p all is added start end =
    added_text new more parts news p (new_part bytes more new p is start end) added
    ∙ ap (λ l. l ++ more) (ap (λ b. parts_text b parts) is ∙ parts_kept bytes more parts all)

pub pushed_within : (bytes more new : List ℕ) (parts news : List Part) (p : Part) → AreWithin (length bytes) parts → new ≡ bytes ++ more → news ≡ parts ++ p ∷ [] → p.start ≡ length bytes → p.end ≡ length new → AreWithin (length new) news
pushed_within bytes more new parts news p all is added start end =
    (let longer : length bytes ≤ length new = omega (arith, ap length is, length-append bytes more) in
    added_within (length new) parts news p (omega (arith, start, longer, end), omega (arith, end)) added (within_more (length bytes) (length new) parts longer all))
