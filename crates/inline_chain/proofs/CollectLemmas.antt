-- The inlined copies that are collected.
use Rattle.std.proofs.Common.{◌≡◌, ◌==◌, ℕ, zero, suc, ◌+◌, ◌<◌, ◌≤◌, ◌++◌, ◌&&◌, inl, inr, Bool, true, false, if◌then◌else◌, List, [], ◌∷◌, length, drop, Option, None, Some, unwrap_or, arith, refl, sym, ap, subst, ◌∙◌, ⊎_elim}
use Rattle.std.proofs.lemmas.Bool.{cases_lt, cond-true, cond-false}
use Rattle.std.proofs.lemmas.List.{append_assoc, append-nil, drop_more, drop_all}
use Rattle.std.proofs.lemmas.List.Elements.{filter-append}
use Rattle.std.specs.List.{slice_get}
use Rattle.std.specs.Option.{option_or}
use Rattle.sym_edges.specs.Addresses.{Range}
use Rattle.range_set.specs.Members.{holds_any}
use Rattle.range_set.specs.Canonical.{IsCanonical}
use Rattle.step_maps.specs.declared.stretch.Stretch.{Stretch}
use Rattle.step_maps.specs.Covers.{index_at}
use Rattle.step_maps.proofs.IndexLemmas.{found_joined}
use Rattle.die_walk.specs.EntryTable.{DieFields}
use Rattle.die_walk.specs.EntryKinds.{is_inlined}
use Rattle.debug_units.specs.Owners.{inside_of}
use Rattle.step_maps.specs.SpanStretches.{span_stretches, AreFit}
use Rattle.inline_chain.specs.internal.Copies.{stretches_in, set_in, copy_by, copy_stretches, child_stretches, of_class, HaveSets, SaysInside, is_copy_in, IsFound, HasEarlier, AddsCopy, Collects}
use Rattle.inline_chain.specs.Trees.{is_number}
use Rattle.inline_chain.proofs.ChildLemmas.{copy_first}
use Rattle.inline_chain.proofs.InsideLemmas.{taken}

got_inside : {X : Type 0} (xs : List X) (k : ℕ) (x : X) → slice_get xs k ≡ Some x → k < length xs
got_inside [] k x is = absurd (cc)
got_inside (y ∷ xs) zero x is = omega arith
got_inside (y ∷ xs) (suc k) x is = (let inside : k < length xs = got_inside xs k x is in omega arith)

got_none : {X : Type 0} (xs : List X) (k : ℕ) → slice_get xs k ≡ None → length xs ≤ k
got_none [] k is = omega arith
got_none (y ∷ xs) zero is = absurd (cc)
got_none (y ∷ xs) (suc k) is = (let outside : length xs ≤ k = got_none xs k is in omega arith)

-- The members of a list from an index on.
dropped : {X : Type 0} (xs : List X) (k : ℕ) (x : X) → slice_get xs k ≡ Some x → drop k xs ≡ x ∷ drop (k + 1) xs
dropped xs k x is = drop_more xs k x (got_inside xs k x is) ∙ ap (λ y. y ∷ drop (k + 1) xs) (taken xs k x x is)

dropped_none : {X : Type 0} (xs : List X) (k : ℕ) → slice_get xs k ≡ None → drop k xs ≡ []
dropped_none xs k is = drop_all k xs (got_none xs k is)

pub got_front : {X : Type 0} (xs : List X) (k : ℕ) (x : X) → k < length xs → slice_get (xs ++ x ∷ []) k ≡ slice_get xs k
got_front [] k x inside = absurd (omega arith)
got_front (y ∷ xs) zero x inside = refl
got_front (y ∷ xs) (suc k) x inside = got_front xs k x (omega arith)

pub got_last : {X : Type 0} (xs : List X) (x : X) → slice_get (xs ++ x ∷ []) (length xs) ≡ Some x
got_last [] x = refl
got_last (y ∷ xs) x = got_last xs x

joined_length : {X : Type 0} (xs : List X) (x : X) → length (xs ++ x ∷ []) ≡ length xs + 1
joined_length [] x = refl
joined_length (y ∷ xs) x = omega (arith, joined_length xs x)

some_same : {X : Type 0} (x y : X) → Some x ≡ Some y → x ≡ y
some_same x y is = cc

inside_more : (all : List DieFields) (row : List (Option ℕ)) (k : ℕ) (die : DieFields) (above : Option ℕ) → SaysInside all row k → slice_get all k ≡ Some die → above ≡ inside_of all (length row) die.parent → SaysInside all (row ++ above ∷ []) (k + 1)
inside_more all row k die above says is said = record {
  many = omega (arith, joined_length row above, says.many);
  each = λ j d below found. ⊎_elim
      (λ less. got_front row j above (omega (arith, says.many)) ∙ says.each j d less found)
      (λ here.
      let at : j ≡ k = omega arith in
      let same : d ≡ die = some_same d die (sym found ∙ ap (slice_get all) at ∙ is) in
      ap (slice_get (row ++ above ∷ [])) (let e : j ≡ length row = omega (arith, says.many) in e) ∙ got_last row above
      ∙ ap Some (said ∙ (λ i. inside_of all ((says.many ∙ sym at) i) ((ap (λ (e : DieFields). e.parent) (sym same)) i))))
      (cases_lt j k);
}

-- The stretches of an entry, followed by those of the entries after it.
no_sets : (all : List DieFields) (k : ℕ) (dies : List DieFields) → child_stretches all k dies [] ≡ []
no_sets all k [] = refl
no_sets all k (die ∷ dies) = refl

no_copy : (die : DieFields) (above : Option ℕ) (k : ℕ) → copy_by die above k [] ≡ []
no_copy die above k = go (is_inlined die) above
  where
    go : (b : Bool) (o : Option ℕ) → (if b then stretches_in k o [] else []) ≡ []
    go false o = refl
    go true None = refl
    go true (Some p) = refl

child_left : (all : List DieFields) (k : ℕ) (dies : List DieFields) (sets : List (List Range)) (die : DieFields) → slice_get dies k ≡ Some die
    → child_stretches all k (drop k dies) (drop k sets) ≡ copy_stretches all k die (set_in sets k) ++ child_stretches all (k + 1) (drop (k + 1) dies) (drop (k + 1) sets)
child_left all k dies sets die is = go (slice_get sets k) refl
  where
    go : (o : Option (List Range)) → slice_get sets k ≡ o → child_stretches all k (drop k dies) (drop k sets) ≡ copy_stretches all k die (unwrap_or o []) ++ child_stretches all (k + 1) (drop (k + 1) dies) (drop (k + 1) sets)
    go (Some spans) there = λ i. child_stretches all k ((dropped dies k die is) i) ((dropped sets k spans there) i)
    go None there =
        ap (child_stretches all k (drop k dies)) (dropped_none sets k there) ∙ no_sets all k (drop k dies)
        ∙ sym (ap (λ l. l ++ child_stretches all (k + 1) (drop (k + 1) dies) (drop (k + 1) sets)) (no_copy die (inside_of all k die.parent) k)
        ∙ ap (child_stretches all (k + 1) (drop (k + 1) dies)) (drop_all (k + 1) sets (omega (arith, got_none sets k there))) ∙ no_sets all (k + 1) (drop (k + 1) dies))

sets_left : (all : List DieFields) (k : ℕ) (sets : List (List Range)) (die : DieFields) → slice_get all k ≡ Some die → (is_inlined die ≡ true → IsCanonical (set_in sets k)) → HaveSets (drop (k + 1) all) (drop (k + 1) sets) → HaveSets (drop k all) (drop k sets)
sets_left all k sets die is canonical left = subst (λ l. HaveSets l (drop k sets)) (sym (dropped all k die is)) (go (slice_get sets k) refl canonical)
  where
    go : (o : Option (List Range)) → slice_get sets k ≡ o → (is_inlined die ≡ true → IsCanonical (unwrap_or o [])) → HaveSets (die ∷ drop (k + 1) all) (drop k sets)
    go (Some spans) there are = subst (λ l. HaveSets (die ∷ drop (k + 1) all) l) (sym (dropped sets k spans there)) (are, left)
    go None there are = subst (λ l. HaveSets (die ∷ drop (k + 1) all) l) (sym (dropped_none sets k there)) tt

-- The first stretch of a class in two lists, one after the other.
class_joined : (x : ℕ) (xs ys : List Stretch) (a : ℕ) → index_at (of_class x (xs ++ ys)) a ≡ option_or (index_at (of_class x xs) a) (index_at (of_class x ys) a)
class_joined x xs ys a = ap (λ l. index_at l a) (filter-append (λ (s : Stretch). s.class == x) xs ys) ∙ found_joined (of_class x xs) (of_class x ys) a

found_or : (p q : Option ℕ) → IsFound p → IsFound (option_or p q)
found_or None q found = absurd found
found_or (Some n) q found = tt

found_other : (p q : Option ℕ) → IsFound q → IsFound (option_or p q)
found_other None q found = found
found_other (Some n) q found = tt

no_other : (p q r : Option ℕ) → IsFound p → option_or p q ≡ option_or p r
no_other None q r found = absurd found
no_other (Some n) q r found = refl

found_more : (x : ℕ) (items more : List Stretch) (a : ℕ) → IsFound (index_at (of_class x items) a) → IsFound (index_at (of_class x (items ++ more)) a)
found_more x items more a found = subst IsFound (sym (class_joined x items more a)) (found_or (index_at (of_class x items) a) (index_at (of_class x more) a) found)

found_copy : (x n : ℕ) (die : DieFields) (above : Option ℕ) (spans : List Range) (items : List Stretch) (a : ℕ) → (is_inlined die ≡ true → IsCanonical spans) → is_copy_in die above spans x a ≡ true
    → IsFound (index_at (of_class x (items ++ copy_by die above n spans)) a)
found_copy x n die above spans items a canonical is =
    subst IsFound (sym (class_joined x items (copy_by die above n spans) a))
    (found_other (index_at (of_class x items) a) (index_at (of_class x (copy_by die above n spans)) a) (subst IsFound (sym own) tt))
  where
    own : index_at (of_class x (copy_by die above n spans)) a ≡ Some n
    own =
        ap (λ l. index_at l a) (sym (append-nil (of_class x (copy_by die above n spans))))
        ∙ copy_first x n die above spans [] a canonical
        ∙ cond-true _ _ _ is

-- A copy may be left out if each of its addresses has an earlier stretch of the same class.
left_out : (x n : ℕ) (die : DieFields) (above : Option ℕ) (spans : List Range) (items rest : List Stretch) (a : ℕ) → (is_inlined die ≡ true → IsCanonical spans)
    → (is_copy_in die above spans x a ≡ true → IsFound (index_at (of_class x items) a)) → index_at (of_class x (items ++ rest)) a ≡ index_at (of_class x (items ++ (copy_by die above n spans ++ rest))) a
left_out x n die above spans items rest a canonical held =
    class_joined x items rest a ∙ go (is_copy_in die above spans x a) refl ∙ sym (class_joined x items (copy_by die above n spans ++ rest) a)
  where
    later : index_at (of_class x (copy_by die above n spans ++ rest)) a ≡ (if is_copy_in die above spans x a then Some n else index_at (of_class x rest) a)
    later =
        ap (λ l. index_at l a) (filter-append (λ (s : Stretch). s.class == x) (copy_by die above n spans) rest)
        ∙ copy_first x n die above spans (of_class x rest) a canonical

    go : (b : Bool) → is_copy_in die above spans x a ≡ b
        → option_or (index_at (of_class x items) a) (index_at (of_class x rest) a) ≡ option_or (index_at (of_class x items) a) (index_at (of_class x (copy_by die above n spans ++ rest)) a)
    go false is = ap (option_or (index_at (of_class x items) a)) (sym (later ∙ cond-false _ _ _ is))
    go true is = no_other (index_at (of_class x items) a) _ _ (held is)

pub earlier_is : (all : List DieFields) (sets : List (List Range)) (row : List (Option ℕ)) (number entry : ℕ) (above : Option ℕ) (die : DieFields) → Some die ≡ slice_get all entry → is_inlined die ≡ true → slice_get row entry ≡ Some above
    → slice_get sets entry ≡ slice_get sets number → HasEarlier all sets row number above
earlier_is all sets row number entry above die there inlined beside set = record { entry = entry; die = die; there = sym there; inlined = inlined; beside = beside; set = set }

second_is : (b c : Bool) → (b && c) ≡ true → c ≡ true
second_is true c is = is
second_is false c is = absurd (let wrong : false ≡ true = is in grind (arith, wrong))

-- The earlier copy has the addresses, directly in the same entry.
earlier_has : (all : List DieFields) (sets : List (List Range)) (k : ℕ) (row : List (Option ℕ)) (items : List Stretch) (die : DieFields) (above : Option ℕ) → Collects all sets k row items → HasEarlier all sets row k above
    → (x a : ℕ) → is_copy_in die above (set_in sets k) x a ≡ true → IsFound (index_at (of_class x items) a)
earlier_has all sets k row items die above c e x a is =
    let inside : e.entry < length row = got_inside row e.entry above e.beside in
    let below : e.entry < k = omega (arith, inside, c.inside.many) in
    let around : inside_of all e.entry e.die.parent ≡ above = some_same _ _ (sym (c.inside.each e.entry e.die below e.there) ∙ e.beside) in
    let set : set_in sets e.entry ≡ set_in sets k = ap (λ o. unwrap_or o []) e.set in
    c.held e.entry e.die x a below e.there
    (ap (λ b. b && (holds_any (set_in sets e.entry) a && is_number x (inside_of all e.entry e.die.parent))) e.inlined
    ∙ (λ i. holds_any (set i) a && is_number x (around i))
    ∙ second_is (is_inlined die) (holds_any (set_in sets k) a && is_number x above) is)

-- One entry more.
collects_next : (all : List DieFields) (sets : List (List Range)) (k : ℕ) (row : List (Option ℕ)) (items made : List Stretch) (die : DieFields) (above : Option ℕ)
    → Some die ≡ slice_get all k → above ≡ inside_of all (length row) die.parent → (is_inlined die ≡ true → IsCanonical (set_in sets k)) → AreFit made
    → ((x a : ℕ) → index_at (of_class x (made ++ child_stretches all (k + 1) (drop (k + 1) all) (drop (k + 1) sets))) a ≡ index_at (of_class x (items ++ (copy_by die above k (set_in sets k) ++ child_stretches all (k + 1) (drop (k + 1) all) (drop (k + 1) sets)))) a)
    → ((x a : ℕ) → IsFound (index_at (of_class x items) a) → IsFound (index_at (of_class x made) a))
    → ((x a : ℕ) → is_copy_in die above (set_in sets k) x a ≡ true → IsFound (index_at (of_class x made) a))
    → Collects all sets k row items → Collects all sets (k + 1) (row ++ above ∷ []) made
collects_next all sets k row items made die above is said canonical fit same kept own c =
    let here : above ≡ inside_of all k die.parent = said ∙ ap (λ n. inside_of all n die.parent) c.inside.many in
    record {
      inside = inside_more all row k die above c.inside (sym is) said;
      same = λ x a.
          same x a
          ∙ ap (λ o. index_at (of_class x (items ++ (copy_by die o k (set_in sets k) ++ child_stretches all (k + 1) (drop (k + 1) all) (drop (k + 1) sets)))) a) here
          ∙ ap (λ l. index_at (of_class x (items ++ l)) a) (sym (child_left all k all sets die (sym is)))
          ∙ c.same x a;
      held = λ j d x a below found has. ⊎_elim
          (λ less. kept x a (c.held j d x a less found has))
          (λ from.
          let at : j ≡ k = omega arith in
          let one : d ≡ die = some_same d die (sym found ∙ ap (slice_get all) at ∙ sym is) in
          own x a
          (ap (λ o. is_copy_in die o (set_in sets k) x a) here
          ∙ (λ i. is_copy_in ((sym one) i) (inside_of all ((sym at) i) ((ap (λ (e : DieFields). e.parent) (sym one)) i)) (set_in sets ((sym at) i)) x a)
          ∙ has))
          (cases_lt j k);
      fit = fit;
      sets_are = λ left. c.sets_are (sets_left all k sets die (sym is) canonical left);
    }

pub collects_more : (all : List DieFields) (sets : List (List Range)) (k : ℕ) (row : List (Option ℕ)) (items made : List Stretch) (die : DieFields) (above : Option ℕ)
    → Some die ≡ slice_get all k → above ≡ inside_of all (length row) die.parent → (is_inlined die ≡ true → IsCanonical (set_in sets k)) → AreFit made → AddsCopy all sets row k die above items made
    → Collects all sets k row items → Collects all sets (k + 1) (row ++ above ∷ []) made
collects_more all sets k row items made die above is said canonical fit (inl grown) c =
    collects_next all sets k row items made die above is said canonical fit
    (λ x a. ap (λ l. index_at (of_class x l) a) (ap (λ l. l ++ child_stretches all (k + 1) (drop (k + 1) all) (drop (k + 1) sets)) grown
    ∙ append_assoc items (copy_by die above k (set_in sets k)) (child_stretches all (k + 1) (drop (k + 1) all) (drop (k + 1) sets))))
    (λ x a found. subst (λ l. IsFound (index_at (of_class x l) a)) (sym grown) (found_more x items (copy_by die above k (set_in sets k)) a found))
    (λ x a has. subst (λ l. IsFound (index_at (of_class x l) a)) (sym grown) (found_copy x k die above (set_in sets k) items a canonical has))
    c
collects_more all sets k row items made die above is said canonical fit (inr (same, e)) c =
    collects_next all sets k row items made die above is said canonical fit
    (λ x a. ap (λ l. index_at (of_class x (l ++ child_stretches all (k + 1) (drop (k + 1) all) (drop (k + 1) sets))) a) same
    ∙ left_out x k die above (set_in sets k) items (child_stretches all (k + 1) (drop (k + 1) all) (drop (k + 1) sets)) a canonical (earlier_has all sets k row items die above c e x a))
    (λ x a found. subst (λ l. IsFound (index_at (of_class x l) a)) (sym same) found)
    (λ x a has. subst (λ l. IsFound (index_at (of_class x l) a)) (sym same) (earlier_has all sets k row items die above c e x a has))
    c

-- The stretches that an entry adds.
pub adds_other : (all : List DieFields) (sets : List (List Range)) (row : List (Option ℕ)) (number : ℕ) (die : DieFields) (above : Option ℕ) (items : List Stretch) → is_inlined die ≡ false → AddsCopy all sets row number die above items items
adds_other all sets row number die above items other = inl (sym (append-nil items) ∙ ap (λ l. items ++ l) (sym (cond-false _ _ _ other)))

pub adds_nowhere : (all : List DieFields) (sets : List (List Range)) (row : List (Option ℕ)) (number : ℕ) (die : DieFields) (above : Option ℕ) (items : List Stretch) → above ≡ None → AddsCopy all sets row number die above items items
adds_nowhere all sets row number die above items nowhere =
    inl (sym (append-nil items) ∙ ap (λ l. items ++ l) (sym (ap (λ o. copy_by die o number (set_in sets number)) nowhere ∙ go (is_inlined die))))
  where
    go : (b : Bool) → (if b then stretches_in number None (set_in sets number) else []) ≡ []
    go true = refl
    go false = refl

pub adds_earlier : (all : List DieFields) (sets : List (List Range)) (row : List (Option ℕ)) (number class : ℕ) (die : DieFields) (above : Option ℕ) (items : List Stretch) → above ≡ Some class → HasEarlier all sets row number (Some class)
    → AddsCopy all sets row number die above items items
adds_earlier all sets row number class die above items stands earlier = inr (refl, subst (λ o. HasEarlier all sets row number o) (sym stands) earlier)

pub adds_spans : (all : List DieFields) (sets : List (List Range)) (row : List (Option ℕ)) (number class : ℕ) (die : DieFields) (above : Option ℕ) (spans : List Range) (items made : List Stretch) → is_inlined die ≡ true → above ≡ Some class
    → spans ≡ set_in sets number → made ≡ items ++ span_stretches number class spans → AddsCopy all sets row number die above items made
adds_spans all sets row number class die above spans items made inlined stands set grown =
    inl (grown ∙ ap (λ l. items ++ span_stretches number class l) set ∙ ap (λ l. items ++ l) (sym (cond-true _ _ _ inlined ∙ ap (λ o. stretches_in number o (set_in sets number)) stands)))

-- If there is no entry with a number, all entries were collected.
got_all : {X : Type 0} (xs : List X) (k : ℕ) → length xs ≤ k → None ≡ slice_get xs k
got_all [] k outside = refl
got_all (x ∷ xs) zero outside = absurd (omega arith)
got_all (x ∷ xs) (suc k) outside = got_all xs k (omega arith)
