-- If two lists in the order of bytes have the same texts, they are equal.
use Rattle.std.proofs.Common.{◌≡◌, ℕ, ◌||◌, List, [], ◌∷◌, refl, sym, ◌∙◌}
use Rattle.std.specs.List.{list_any}
use Rattle.std.specs.List.Sorted.{IsStrictlySortedBy}
use Rattle.std.specs.Ordering.{nat_cmp, is_eq}
use Rattle.std.specs.Cmp.Lexicographic.{slice_cmp}
use Rattle.std.specs.Str.{bytes_eq}
use Rattle.std.proofs.lemmas.Cmp.{nat_list_cmp_total}
use Rattle.std.proofs.lemmas.Map.Text.{is_eq-slice_cmp}
use Rattle.std.proofs.lemmas.Map.Lookups.{btree_set_from_contains, exact_bytes}

as_compared : (text : List ℕ) (texts : List (List ℕ)) → list_any (λ t. is_eq (slice_cmp nat_cmp text t)) texts ≡ list_any (bytes_eq text) texts
as_compared text [] = refl
as_compared text (t ∷ texts) = λ i. is_eq-slice_cmp text t i || as_compared text texts i

pub one_texts : (xs ys : List (List ℕ)) → IsStrictlySortedBy (slice_cmp nat_cmp) xs → IsStrictlySortedBy (slice_cmp nat_cmp) ys → ((text : List ℕ) → list_any (bytes_eq text) xs ≡ list_any (bytes_eq text) ys) → xs ≡ ys
one_texts xs ys p q same =
    btree_set_from_contains nat_list_cmp_total (record { keys = xs }) (record { keys = ys }) p q (λ text. as_compared text xs ∙ same text ∙ sym (as_compared text ys)) exact_bytes
