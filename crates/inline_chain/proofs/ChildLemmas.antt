-- The first inlined copy directly in an entry is that of the first stretch of its class.
use Rattle.std.proofs.Common.{◌≡◌, ℕ, ◌+◌, ◌-◌, ◌==◌, ◌&&◌, ◌||◌, ◌++◌, Bool, true, false, if◌then◌else◌, nat_le, nat_lt, List, [], ◌∷◌, Option, None, Some, arith, refl, sym, ap, ◌∙◌}
use Rattle.std.proofs.lemmas.Bool.{cond-true, cond-false}
use Rattle.std.proofs.lemmas.Bool.Decides.{nat_tests}
use Rattle.std.proofs.lemmas.List.Elements.{filter-append}
use Rattle.std.specs.List.{find}
use Rattle.std.specs.Option.{option_map}
use Rattle.sym_edges.specs.Addresses.{Range}
use Rattle.range_set.specs.Members.{holds_any}
use Rattle.range_set.specs.Canonical.{IsCanonical}
use Rattle.step_maps.specs.declared.stretch.Stretch.{Stretch}
use Rattle.step_maps.specs.Covers.{reaches, first_at, index_at}
use Rattle.die_walk.specs.EntryTable.{DieFields}
use Rattle.die_walk.specs.EntryKinds.{is_inlined}
use Rattle.debug_units.specs.Owners.{inside_of}
use Rattle.step_maps.specs.SpanStretches.{span_stretches}
use Rattle.inline_chain.specs.internal.Copies.{stretches_in, copy_by, copy_stretches, child_stretches, of_class, HaveSets}
use Rattle.inline_chain.specs.Trees.{is_number, first_child}

pub index_first : (s : Stretch) (items : List Stretch) (a : ℕ) → index_at (s ∷ items) a ≡ (if reaches s a then Some s.index else index_at items a)
unfolding index_at first_at
index_first s items a = go (reaches s a)
  where
    go : (b : Bool) → option_map (λ t. t.index) (if b then Some s else find (λ t. reaches t a) items) ≡ (if b then Some s.index else option_map (λ t. t.index) (find (λ t. reaches t a) items))
    go true = refl
    go false = refl

-- The first stretch at an address is one of a set's, or one after these.
spans_first : (n p : ℕ) (spans : List Range) (items : List Stretch) (a : ℕ) → IsCanonical spans → index_at (span_stretches n p spans ++ items) a ≡ (if holds_any spans a then Some n else index_at items a)
spans_first n p [] items a canonical = refl
spans_first n p (r ∷ spans) items a canonical =
    index_first here (span_stretches n p spans ++ items) a
    ∙ ap (λ o. if reaches here a then Some n else o) (spans_first n p spans items a canonical.2)
    ∙ ap (λ b. if b then Some n else (if holds_any spans a then Some n else index_at items a)) (let same : (nat_le r.start a && nat_le a (r.end - 1)) ≡ (nat_le r.start a && nat_lt a r.end) = grind (arith, nat_tests) in same)
    ∙ go (nat_le r.start a && nat_lt a r.end) (holds_any spans a)
  where
    here : Stretch
    here = record { first = r.start; last = r.end - 1; index = n; class = p }

    go : (b c : Bool) → (if b then Some n else (if c then Some n else index_at items a)) ≡ (if b || c then Some n else index_at items a)
    go true c = refl
    go false c = refl

class_spans : (x n p : ℕ) (b : Bool) (spans : List Range) → (p == x) ≡ b → of_class x (span_stretches n p spans) ≡ (if b then span_stretches n p spans else [])
class_spans x n p true [] is = refl
class_spans x n p false [] is = refl
class_spans x n p true (r ∷ spans) is = cond-true _ _ _ is ∙ ap (λ l. record { first = r.start; last = r.end - 1; index = n; class = p } ∷ l) (class_spans x n p true spans is)
class_spans x n p false (r ∷ spans) is = cond-false _ _ _ is ∙ class_spans x n p false spans is

in_first : (x n : ℕ) (above : Option ℕ) (spans : List Range) (items : List Stretch) (a : ℕ) → IsCanonical spans
    → index_at (of_class x (stretches_in n above spans) ++ items) a ≡ (if holds_any spans a && is_number x above then Some n else index_at items a)
in_first x n None spans items a canonical = go (holds_any spans a)
  where
    go : (b : Bool) → index_at items a ≡ (if b && false then Some n else index_at items a)
    go true = refl
    go false = refl
in_first x n (Some p) spans items a canonical = go (p == x) refl
  where
    go : (b : Bool) → (p == x) ≡ b → index_at (of_class x (span_stretches n p spans) ++ items) a ≡ (if holds_any spans a && (p == x) then Some n else index_at items a)
    go true is =
        ap (λ l. index_at (l ++ items) a) (class_spans x n p true spans is) ∙ spans_first n p spans items a canonical
        ∙ both (holds_any spans a) ∙ ap (λ t. if holds_any spans a && t then Some n else index_at items a) (sym is)
      where
        both : (c : Bool) → (if c then Some n else index_at items a) ≡ (if c && true then Some n else index_at items a)
        both true = refl
        both false = refl
    go false is = ap (λ l. index_at (l ++ items) a) (class_spans x n p false spans is) ∙ neither (holds_any spans a) ∙ ap (λ t. if holds_any spans a && t then Some n else index_at items a) (sym is)
      where
        neither : (c : Bool) → index_at items a ≡ (if c && false then Some n else index_at items a)
        neither true = refl
        neither false = refl

pub copy_first : (x n : ℕ) (die : DieFields) (above : Option ℕ) (spans : List Range) (items : List Stretch) (a : ℕ) → (is_inlined die ≡ true → IsCanonical spans)
    → index_at (of_class x (copy_by die above n spans) ++ items) a ≡ (if is_inlined die && (holds_any spans a && is_number x above) then Some n else index_at items a)
copy_first x n die above spans items a canonical = go (is_inlined die) canonical
  where
    go : (b : Bool) → (b ≡ true → IsCanonical spans) → index_at (of_class x (if b then stretches_in n above spans else []) ++ items) a ≡ (if b && (holds_any spans a && is_number x above) then Some n else index_at items a)
    go true are = in_first x n above spans items a (are refl)
    go false are = refl

pub index_children : (all : List DieFields) (x n : ℕ) (dies : List DieFields) (sets : List (List Range)) (a : ℕ) → HaveSets dies sets
    → index_at (of_class x (child_stretches all n dies sets)) a ≡ first_child all a x n dies sets
unfolding index_at first_at
index_children all x n [] sets a canonical = refl
index_children all x n (die ∷ dies) [] a canonical = refl
index_children all x n (die ∷ dies) (spans ∷ sets) a canonical =
    ap (λ l. index_at l a) (filter-append (λ (s : Stretch). s.class == x) (copy_stretches all n die spans) (child_stretches all (n + 1) dies sets))
    ∙ copy_first x n die (inside_of all n die.parent) spans (of_class x (child_stretches all (n + 1) dies sets)) a canonical.0
    ∙ ap (λ o. if is_inlined die && (holds_any spans a && is_number x (inside_of all n die.parent)) then Some n else o) (index_children all x (n + 1) dies sets a canonical.1)
