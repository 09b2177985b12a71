-- Bytes that pass through a buffer to a sink (for `put`, `put_rules`, `put_tokens` and `put_word`).
use Rattle.std.proofs.Common.{◌≡◌, ℕ, ◌+◌, ◌^◌, ◌<◌, ◌≤◌, List, [], ◌∷◌, ◌++◌, Option, Some, None, Result, Ok, Err, length, take, drop, refl, sym, ◌∙◌, ap, arith, append_assoc, append-nil, length-append, get_or, subst, ⊎_elim}
use Rattle.std.specs.List.{flat_map}
use Rattle.std.proofs.lemmas.Bool.{cases_lt}
use Rattle.std.proofs.lemmas.List.{take-append-le, take_more, take_all, take-append-drop}
use Rattle.std.proofs.lemmas.List.Concat.{flat_map-append}
use Rattle.std.proofs.Math.Seq.{take-append-add}
use Rattle.sym_edges.specs.Outside.{append_told, AddsFront, Rose}
use Rattle.sym_rules.specs.Buffer.{Passes, Hands}

told_twice : (held : Option (List ℕ)) (first second : List ℕ) → append_told (append_told held first) second ≡ append_told held (first ++ second)
told_twice None first second = refl
told_twice (Some held) first second = ap Some (append_assoc held first second)

told_nothing : (held : Option (List ℕ)) → append_told held [] ≡ held
told_nothing None = refl
told_nothing (Some held) = ap Some (append-nil held)

-- The new bytes wait too.
pub passes_held : (told : Option (List ℕ)) (waited came waits : List ℕ) → waits ≡ waited ++ came → Passes told waited came told waits
passes_held told waited came waits is = record { front = []; told = sym (told_nothing told); whole = sym is }

-- The bytes that waited were handed on, and the new ones wait.
pub passes_on : (before after : Option (List ℕ)) (waited came waits : List ℕ) → after ≡ append_told before waited → waits ≡ came → Passes before waited came after waits
passes_on before after waited came waits told is = record { front = waited; told = told; whole = ap (λ c. waited ++ c) (sym is) }

-- The bytes that waited and the new ones were handed on.
pub passes_through : (before between after : Option (List ℕ)) (waited came waits : List ℕ) → between ≡ append_told before waited → after ≡ append_told between came → waits ≡ [] → Passes before waited came after waits
passes_through before between after waited came waits first second none = record {
  front = waited ++ came;
  told = second ∙ ap (λ t. append_told t came) first ∙ told_twice before waited came;
  whole = sym (ap (λ w. (waited ++ came) ++ w) none ∙ append-nil (waited ++ came));
}

-- Two puts, one after the other.
pub passes_more : (a b c : Option (List ℕ)) (w x v y u : List ℕ) → Passes a w x b v → Passes b v y c u → Passes a w (x ++ y) c u
passes_more a b c w x v y u first second = record {
  front = first.front ++ second.front;
  told = second.told ∙ ap (λ t. append_told t second.front) first.told ∙ told_twice a first.front second.front;
  whole = sym (append_assoc w x y) ∙ ap (λ l. l ++ y) first.whole ∙ append_assoc first.front v y ∙ ap (λ l. first.front ++ l) second.whole ∙ sym (append_assoc first.front second.front u);
}

pub front_longer : (a b : Option (List ℕ)) (x y : List ℕ) → AddsFront a b x → AddsFront a b (x ++ y)
front_longer a b x y front = record {
  count = front.count;
  within = omega (arith, front.within, length-append x y);
  added = front.added ∙ ap (append_told a) (sym (take-append-le front.count x y front.within));
}

front_take : (f l : List ℕ) (n : ℕ) → f ++ take n l ≡ take (length f + n) (f ++ l)
front_take f l n = sym (take-append-add f l n)

regrouped : (w x y f v : List ℕ) → w ++ x ≡ f ++ v → w ++ (x ++ y) ≡ f ++ (v ++ y)
regrouped w x y f v is = sym (append_assoc w x y) ∙ ap (λ l. l ++ y) is ∙ append_assoc f v y

pub front_more : (a b : Option (List ℕ)) (w x y : List ℕ) → AddsFront a b (w ++ x) → AddsFront a b (w ++ (x ++ y))
front_more a b w x y front = subst (λ (l : List ℕ). AddsFront a b l) (append_assoc w x y) (front_longer a b (w ++ x) y front)

-- What a failed put handed on after a put that passed is a front of all bytes.
pub front_behind : (a b c : Option (List ℕ)) (w x v y : List ℕ) → Passes a w x b v → AddsFront b c (v ++ y) → AddsFront a c (w ++ (x ++ y))
front_behind a b c w x v y first front = record {
  count = length first.front + front.count;
  within = omega (arith, front.within, ap length first.whole, length-append w (x ++ y), length-append x y, length-append w x, length-append first.front v, length-append v y);
  added = front.added ∙ ap (λ t. append_told t (take front.count (v ++ y))) first.told ∙ told_twice a first.front (take front.count (v ++ y))
      ∙ ap (append_told a) (front_take first.front (v ++ y) front.count ∙ ap (take (length first.front + front.count)) (sym (regrouped w x y first.front v first.whole)));
}

-- The bytes that waited were handed on, and a front of the new ones.
pub front_through : (before between after : Option (List ℕ)) (waited came : List ℕ) → between ≡ append_told before waited → AddsFront between after came → AddsFront before after (waited ++ came)
front_through before between after waited came told front = record {
  count = length waited + front.count;
  within = omega (arith, front.within, length-append waited came);
  added = front.added ∙ ap (λ t. append_told t (take front.count came)) told ∙ told_twice before waited (take front.count came)
      ∙ ap (append_told before) (front_take waited came front.count);
}

pub pieces_more : {X : Type 0} (f : X → List ℕ) (xs : List X) (i : ℕ) (d : X) → i < length xs → d ≡ get_or xs i d → flat_map f (take (i + 1) xs) ≡ flat_map f (take i xs) ++ f d
pieces_more f xs i d within is =
    ap (flat_map f) (take_more xs i d within) ∙ flat_map-append f (take i xs) (get_or xs i d ∷ []) ∙ ap (λ l. flat_map f (take i xs) ++ l) (append-nil (f (get_or xs i d)) ∙ ap f (sym is))

pub pieces_rest : {X : Type 0} (f : X → List ℕ) (xs : List X) (i : ℕ) → flat_map f xs ≡ flat_map f (take i xs) ++ flat_map f (drop i xs)
pieces_rest f xs i = ap (flat_map f) (sym (take-append-drop i xs)) ∙ flat_map-append f (take i xs) (drop i xs)

pub passes_none : (a : Option (List ℕ)) (w : List ℕ) → Passes a w [] a w
passes_none a w = passes_held a w [] w (sym (append-nil w))

-- All bytes passed an empty buffer, and the rest was handed on.
pub passes_whole : (a b c : Option (List ℕ)) (w x y v : List ℕ) → w ≡ [] → y ≡ x → Passes a w y b v → c ≡ append_told b v → c ≡ append_told a x
passes_whole a b c w x y v none same passed told =
    told ∙ ap (λ t. append_told t v) passed.told ∙ told_twice a passed.front v ∙ ap (append_told a) (sym passed.whole ∙ ap (λ l. l ++ y) none ∙ same)

-- All bytes passed an empty buffer, but the rest was not handed on.
pub fails_whole : (a b c : Option (List ℕ)) (w x y v : List ℕ) → w ≡ [] → y ≡ x → Passes a w y b v → AddsFront b c v → AddsFront a c x
fails_whole a b c w x y v none same passed front =
    subst (λ (l : List ℕ). AddsFront a c l) (ap (λ l. l ++ (y ++ [])) none ∙ append-nil y ∙ same)
    (front_behind a b c w y v [] passed (subst (λ (l : List ℕ). AddsFront b c l) (sym (append-nil v)) front))

-- Not all bytes passed an empty buffer.
pub fails_front : (a c : Option (List ℕ)) (w x y : List ℕ) → w ≡ [] → y ≡ x → AddsFront a c (w ++ y) → AddsFront a c x
fails_front a c w x y none same front = subst (λ (l : List ℕ). AddsFront a c l) (ap (λ l. l ++ y) none ∙ same) front

-- The result of several puts.

pub hands_held : {A F : Type 0} (x : A) (a : Option (List ℕ)) (f : ℕ) (w p v : List ℕ) → v ≡ w ++ p → Hands {A = A} {F = F} (Ok x) a f w p a f v
hands_held x a f w p v is = record { passed = passes_held a w p v is; front = tt; kept = omega arith; cause = tt }

pub hands_failed : {A F : Type 0} (e : F) (a b : Option (List ℕ)) (f g : ℕ) (w p v : List ℕ) → AddsFront a b w → f ≤ g → Rose f g → Hands {A = A} {F = F} (Err e) a f w p b g v
hands_failed e a b f g w p v front kept rose = record { passed = tt; front = front_longer a b w p front; kept = kept; cause = rose }

pub hands_next : {A F : Type 0} (x : A) (a b : Option (List ℕ)) (f g : ℕ) (w e p v : List ℕ) → b ≡ append_told a w → e ≡ [] → v ≡ e ++ p → f ≤ g → Hands {A = A} {F = F} (Ok x) a f w p b g v
hands_next x a b f g w e p v told none is kept = record { passed = passes_on a b w p v told (is ∙ ap (λ l. l ++ p) none); front = tt; kept = kept; cause = tt }

pub hands_through : {A F : Type 0} (x : A) (a b c : Option (List ℕ)) (f g h : ℕ) (w p v : List ℕ) → b ≡ append_told a w → c ≡ append_told b p → v ≡ [] → f ≤ g → g ≤ h → Hands {A = A} {F = F} (Ok x) a f w p c h v
hands_through x a b c f g h w p v first second none kept later = record { passed = passes_through a b c w p v first second none; front = tt; kept = omega (arith, kept, later); cause = tt }

rose_on : (f g h : ℕ) → f ≤ g → g ≤ h → Rose g h → Rose f h
rose_on f g h first second rose small = ⊎_elim (λ less. (let rises : g < h = rose less in omega (arith, first, rises))) (λ past. omega (arith, second, past, small)) (cases_lt (g + 1) (2 ^ 64))

pub hands_through_failed : {A F : Type 0} (e : F) (a b c : Option (List ℕ)) (f g h : ℕ) (w p v : List ℕ) → b ≡ append_told a w → AddsFront b c p → f ≤ g → g ≤ h → Rose g h → Hands {A = A} {F = F} (Err e) a f w p c h v
hands_through_failed e a b c f g h w p v told front first second rose = record { passed = tt; front = front_through a b c w p told front; kept = omega (arith, first, second); cause = rose_on f g h first second rose }

-- A put after one that passed.
pub hands_both : {A F : Type 0} (x : A) (end : Result A F) (a b c : Option (List ℕ)) (f g h : ℕ) (w p v q u : List ℕ) → Hands {A = A} {F = F} (Ok x) a f w p b g v → Hands end b g v q c h u → Hands end a f w (p ++ q) c h u
hands_both x (Ok y) a b c f g h w p v q u first second = record { passed = passes_more a b c w p v q u first.passed second.passed; front = tt; kept = omega (arith, first.kept, second.kept); cause = tt }
hands_both x (Err e) a b c f g h w p v q u first second =
    record { passed = tt; front = front_behind a b c w p v q first.passed second.front; kept = omega (arith, first.kept, second.kept); cause = rose_on f g h first.kept second.kept second.cause }

-- No put comes after one that failed.
pub hands_off : {A F : Type 0} (d e : F) (a b : Option (List ℕ)) (f g : ℕ) (w p v q u : List ℕ) → Hands {A = A} {F = F} (Err d) a f w p b g v → Hands {A = A} {F = F} (Err e) a f w (p ++ q) b g u
hands_off d e a b f g w p v q u first = record { passed = tt; front = front_more a b w p q first.front; kept = first.kept; cause = first.cause }

-- The invariant of a loop of puts: the pieces so far have passed.
abbrev pub Handed : Option (List ℕ) → ℕ → List ℕ → List ℕ → Option (List ℕ) → ℕ → List ℕ → Type 0
Handed a f w p b g v = Hands {A = Unit {0}} {F = Unit {0}} (Ok tt) a f w p b g v

pub hands_none : (a : Option (List ℕ)) (f : ℕ) (w : List ℕ) → Handed a f w [] a f w
hands_none a f w = record { passed = passes_none a w; front = tt; kept = omega arith; cause = tt }

pub hands_piece : {A F X : Type 0} (spelled : X → List ℕ) (xs : List X) (i : ℕ) (d : X) (x : A) (a b c : Option (List ℕ)) (f g h : ℕ) (w v u : List ℕ) → i < length xs → d ≡ get_or xs i d
    → Handed a f w (flat_map spelled (take i xs)) b g v → Hands {A = A} {F = F} (Ok x) b g v (spelled d) c h u → Handed a f w (flat_map spelled (take (i + 1) xs)) c h u
hands_piece spelled xs i d x a b c f g h w v u within is first second = record {
  passed = subst (λ (l : List ℕ). Passes a w l c u) (sym (pieces_more spelled xs i d within is)) (passes_more a b c w (flat_map spelled (take i xs)) v (spelled d) u first.passed second.passed);
  front = tt;
  kept = omega (arith, first.kept, second.kept);
  cause = tt;
}

-- A put of the loop failed.
pub hands_broken : {A F X : Type 0} (spelled : X → List ℕ) (xs : List X) (i : ℕ) (d : X) (e k : F) (a b c : Option (List ℕ)) (f g h : ℕ) (w v u t : List ℕ) → i < length xs → d ≡ get_or xs i d
    → Handed a f w (flat_map spelled (take i xs)) b g v → Hands {A = A} {F = F} (Err e) b g v (spelled d) c h u → Hands {A = A} {F = F} (Err k) a f w (flat_map spelled xs) c h t
hands_broken spelled xs i d e k a b c f g h w v u t within is first second = record {
  passed = tt;
  front = subst (λ (l : List ℕ). AddsFront a c (w ++ l)) (ap (λ l. l ++ flat_map spelled (drop (i + 1) xs)) (sym (pieces_more spelled xs i d within is)) ∙ sym (pieces_rest spelled xs (i + 1)))
      (front_more a c w (flat_map spelled (take i xs) ++ spelled d) (flat_map spelled (drop (i + 1) xs)) (front_behind a b c w (flat_map spelled (take i xs)) v (spelled d) first.passed second.front));
  kept = omega (arith, first.kept, second.kept);
  cause = rose_on f g h first.kept second.kept second.cause;
}

-- All puts of the loop passed.
pub hands_all : {A F X : Type 0} (spelled : X → List ℕ) (xs : List X) (i : ℕ) (y : A) (a c : Option (List ℕ)) (f g : ℕ) (w u : List ℕ) → length xs ≤ i
    → Handed a f w (flat_map spelled (take i xs)) c g u → Hands {A = A} {F = F} (Ok y) a f w (flat_map spelled xs) c g u
hands_all spelled xs i y a c f g w u past all = record {
  passed = subst (λ (l : List ℕ). Passes a w l c u) (ap (flat_map spelled) (take_all i xs past)) all.passed;
  front = tt;
  kept = all.kept;
  cause = tt;
}

-- The result after all bytes were put into an empty buffer and those that waited were handed on.
pub hands_whole : {A F : Type 0} (x : A) (a b c : Option (List ℕ)) (f g : ℕ) (w p q v : List ℕ) → w ≡ [] → q ≡ p → Hands {A = A} {F = F} (Ok x) a f w q b g v → c ≡ append_told b v → c ≡ append_told a p
hands_whole x a b c f g w p q v none same all told = passes_whole a b c w p q v none same all.passed told

pub hands_not_on : {A F : Type 0} (x : A) (a b c : Option (List ℕ)) (f g : ℕ) (w p q v : List ℕ) → w ≡ [] → q ≡ p → Hands {A = A} {F = F} (Ok x) a f w q b g v → AddsFront b c v → AddsFront a c p
hands_not_on x a b c f g w p q v none same all front = fails_whole a b c w p q v none same all.passed front

pub hands_front : {A F : Type 0} (e : F) (a c : Option (List ℕ)) (f g : ℕ) (w p q v : List ℕ) → w ≡ [] → q ≡ p → Hands {A = A} {F = F} (Err e) a f w q c g v → AddsFront a c p
hands_front e a c f g w p q v none same off = fails_front a c w p q none same off.front
