-- Links that lead through the stretches of each class.
use Rattle.std.proofs.Common.{◌≡◌, ℕ, suc, ◌-◌, ◌<◌, ◌≤◌, ◌==◌, Bool, true, false, if◌then◌else◌, List, [], ◌∷◌, ◌++◌, length, take, get_or, set, replicate, arith, refl, sym, ap, subst, ◌∙◌, inl, inr, append_assoc, append-nil}
use Rattle.std.proofs.Math.Seq.{get_or-append_seam}
use Rattle.std.proofs.lemmas.Bool.{cond-true, cond-false}
use Rattle.std.proofs.lemmas.Bool.Decides.{eqb_tells}
use Rattle.std.proofs.lemmas.Grind.{get_or-set_at}
use Rattle.std.proofs.lemmas.List.{take_all, length-append, length-replicate, length-set, get_or_append_left, get_or-set_other, get_or-replicate}
use Rattle.step_maps.specs.declared.stretch.Stretch.{Stretch}
use Rattle.inline_chain.specs.internal.Copies.{of_class, HaveClasses}
use Rattle.inline_chain.specs.internal.Links.{first_place, nexts_of, Linking, Walks}

first_inside : (x : ℕ) (items : List Stretch) → first_place x items ≤ length items
unfolding first_place
first_inside x [] = omega arith
first_inside x (s ∷ items) = go (s.class == x) (first_inside x items)
  where
    go : (b : Bool) → first_place x items ≤ length items → (if b then suc (length items) else first_place x items) ≤ length (s ∷ items)
    go true less = omega arith
    go false less = omega (arith, less)

pub no_first : (x : ℕ) (items : List Stretch) → 0 ≡ first_place x items → of_class x items ≡ []
unfolding first_place
no_first x [] none = refl
no_first x (s ∷ items) none = elim (eqb_tells s.class x) [
  | inl is ↦ absurd (let one : 0 ≡ suc (length items) = none ∙ cond-true _ (suc (length items)) (first_place x items) is.0 in omega (arith, one))
  | inr is ↦ cond-false _ _ _ is.0 ∙ no_first x items (none ∙ cond-false _ (suc (length items)) (first_place x items) is.0)
]

-- The first stretch of a class.
record Found (x : ℕ) (items : List Stretch) (place : ℕ) : Type 0 where
  before : List Stretch
  one : Stretch
  later : List Stretch
  all : items ≡ before ++ one ∷ later
  place_is : place ≡ suc (length later)
  class_is : one.class ≡ x
  kept : of_class x items ≡ one ∷ of_class x later

found : (x : ℕ) (items : List Stretch) (place : ℕ) → 0 < place → place ≡ first_place x items → Found x items place
unfolding first_place
found x [] place some is = absurd (omega (arith, some, is))
found x (s ∷ items) place some is = elim (eqb_tells s.class x) [
  | inl e ↦ record {
    before = [];
    one = s;
    later = items;
    all = refl;
    place_is = is ∙ cond-true _ (suc (length items)) (first_place x items) e.0;
    class_is = e.1;
    kept = cond-true _ _ _ e.0;
  }
  | inr e ↦ (let f = found x items place some (is ∙ cond-false _ (suc (length items)) (first_place x items) e.0) in record {
    before = s ∷ f.before;
    one = f.one;
    later = f.later;
    all = ap (λ l. s ∷ l) f.all;
    place_is = f.place_is;
    class_is = f.class_is;
    kept = cond-false _ _ _ e.0 ∙ f.kept;
  })
]

pub many_nexts : (items : List Stretch) → length (nexts_of items) ≡ length items
many_nexts [] = refl
many_nexts (s ∷ items) = omega (arith, length-append (nexts_of items) (first_place s.class items ∷ []), many_nexts items)

-- The link of a stretch.
next_at : (before : List Stretch) (s : Stretch) (later : List Stretch) (d : ℕ) → get_or (nexts_of (before ++ s ∷ later)) (length later) d ≡ first_place s.class later
next_at [] s later d = ap (λ n. get_or (nexts_of (s ∷ later)) n d) (sym (many_nexts later)) ∙ get_or-append_seam (nexts_of later) (first_place s.class later) [] d
next_at (b ∷ before) s later d =
    get_or_append_left (nexts_of (before ++ s ∷ later)) (first_place b.class (before ++ s ∷ later) ∷ []) d (length later)
    (omega (arith, many_nexts (before ++ s ∷ later), length-append before (s ∷ later)))
    ∙ next_at before s later d

-- A walk through the stretches of a class.
pub walk_inside : (x : ℕ) (items group : List Stretch) (place : ℕ) → Walks x items group place → place ≤ length items
walk_inside x items group place w = omega (arith, w.place_is, first_inside x w.rest, length-append w.before w.rest, ap length w.all)

pub walk_more : (x : ℕ) (items group more : List Stretch) (nexts : List ℕ) (place next : ℕ) (d : Stretch) (e : ℕ) → 0 < place → nexts ≡ nexts_of items → more ≡ group ++ get_or items (length items - place) d ∷ [] → next ≡ get_or nexts (place - 1) e
    → Walks x items group place → Walks x items more next × (next < place)
walk_more x items group more nexts place next d e some are pushed said w =
    let f = found x w.rest place some w.place_is in
    let front = w.before ++ f.before in
    let whole : front ++ f.one ∷ f.later ≡ items = append_assoc w.before f.before (f.one ∷ f.later) ∙ ap (λ l. w.before ++ l) (sym f.all) ∙ w.all in
    let one_is : get_or items (length items - place) d ≡ f.one =
    ap (λ l. get_or l (length l - place) d) (sym whole)
    ∙ ap (λ n. get_or (front ++ f.one ∷ f.later) n d) (let at : length (front ++ f.one ∷ f.later) - place ≡ length front = omega (arith, length-append front (f.one ∷ f.later), f.place_is) in at)
    ∙ get_or-append_seam front f.one f.later d in
    let next_is : next ≡ first_place x f.later =
    said ∙ ap (λ ns. get_or ns (place - 1) e) (are ∙ ap nexts_of (sym whole))
    ∙ ap (λ n. get_or (nexts_of (front ++ f.one ∷ f.later)) n e) (let at : place - 1 ≡ length f.later = omega (arith, f.place_is) in at)
    ∙ next_at front f.one f.later e ∙ ap (λ c. first_place c f.later) f.class_is in (
      record {
        before = front ++ f.one ∷ [];
        rest = f.later;
        all = append_assoc front (f.one ∷ []) f.later ∙ whole;
        place_is = next_is;
        group_is =
            ap (λ l. l ++ of_class x f.later) (pushed ∙ ap (λ s. group ++ s ∷ []) one_is)
            ∙ append_assoc group (f.one ∷ []) (of_class x f.later) ∙ ap (λ l. group ++ l) (sym f.kept) ∙ w.group_is;
      },
      omega (arith, next_is, first_inside x f.later, f.place_is),
    )

pub walk_ends : (x : ℕ) (items group : List Stretch) (place : ℕ) → place ≡ 0 → Walks x items group place → group ≡ of_class x items
walk_ends x items group place none w = sym (append-nil group) ∙ ap (λ l. group ++ l) (sym (no_first x w.rest (sym none ∙ w.place_is))) ∙ w.group_is

-- A list that was emptied and filled with zeros.
pub zeros_are : (n had : ℕ) (before firsts : List ℕ) → before ≡ [] → had ≡ 0 → firsts ≡ take n before ++ replicate (n - had) 0 → firsts ≡ replicate n 0
zeros_are n had before firsts none empty made =
    let front : take n before ≡ [] = ap (take n) none ∙ take_all n [] (omega arith) in
    let count : n - had ≡ n = omega (arith, empty) in
    made ∙ (λ i. front i ++ replicate (count i) 0)

-- The links are made from the last stretch to the first.
pub links_begin : (items : List Stretch) (firsts nexts : List ℕ) (n : ℕ) → firsts ≡ replicate n 0 → nexts ≡ [] → HaveClasses n items → Linking items items firsts nexts
unfolding first_place
links_begin items firsts nexts n zeros none below =
    let long : length firsts ≡ n = ap length zeros ∙ length-replicate n 0 in
    record {
      done = [];
      all = append-nil items;
      linked = record {
        firsts_are = λ x d inside. ap (λ l. get_or l x d) zeros ∙ get_or-replicate n x 0 d (omega (arith, inside, long));
        nexts_are = none;
        below = tt;
      };
      left = subst (λ k. HaveClasses k items) (sym long) below;
    }

last_class : (n : ℕ) (before : List Stretch) (s : Stretch) → HaveClasses n (before ++ s ∷ []) → HaveClasses n before × (s.class < n)
last_class n [] s below = (tt, below.0)
last_class n (b ∷ before) s below = let last = last_class n before s below.1 in ((below.0, last.0), last.1)

pub class_inside : (items rest before : List Stretch) (s : Stretch) (firsts nexts : List ℕ) → rest ≡ before ++ s ∷ [] → Linking items rest firsts nexts → s.class < length firsts
class_inside items rest before s firsts nexts is so = (last_class (length firsts) before s (subst (HaveClasses (length firsts)) is so.left)).1

pub links_few : (items rest before : List Stretch) (s : Stretch) (firsts nexts : List ℕ) → rest ≡ before ++ s ∷ [] → Linking items rest firsts nexts → length nexts < length items
links_few items rest before s firsts nexts is so =
    omega (arith, ap length so.linked.nexts_are, many_nexts so.done, ap length so.all, length-append rest so.done, ap length is, length-append before (s ∷ []))

pub links_more : (items rest before : List Stretch) (s : Stretch) (firsts nexts more : List ℕ) (n k d : ℕ) → rest ≡ before ++ s ∷ [] → n ≡ get_or firsts s.class d → more ≡ nexts ++ n ∷ [] → k ≡ length more
    → Linking items rest firsts nexts → Linking items before (set firsts s.class k) more
unfolding first_place
links_more items rest before s firsts nexts more n k d is first pushed count so =
    let last = last_class (length firsts) before s (subst (HaveClasses (length firsts)) is so.left) in
    let long : length (set firsts s.class k) ≡ length firsts = length-set firsts s.class k in
    let here : k ≡ suc (length so.done) = omega (arith, count, ap length pushed, length-append nexts (n ∷ []), ap length so.linked.nexts_are, many_nexts so.done) in
    record {
      done = s ∷ so.done;
      all = sym (append_assoc before (s ∷ []) so.done) ∙ ap (λ l. l ++ so.done) (sym is) ∙ so.all;
      linked = record {
        firsts_are = λ x e inside. elim (eqb_tells s.class x) [
          | inl same ↦ get_or-set_at firsts s.class x k e (sym same.1) last.1 ∙ here ∙ sym (cond-true _ _ _ same.0)
          | inr other ↦ get_or-set_other firsts s.class x k e (λ same. other.1 (sym same)) ∙ so.linked.firsts_are x e (omega (arith, inside, long)) ∙ sym (cond-false _ _ _ other.0)
        ];
        nexts_are = pushed ∙ ap (λ m. nexts ++ m ∷ []) (first ∙ so.linked.firsts_are s.class d last.1) ∙ ap (λ l. l ++ first_place s.class so.done ∷ []) so.linked.nexts_are;
        below = subst (λ n. HaveClasses n (s ∷ so.done)) (sym long) (last.1, so.linked.below);
      };
      left = subst (λ n. HaveClasses n before) (sym long) last.0;
    }
