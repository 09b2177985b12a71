-- A core file that is read in pieces, for `read_held`.
use Rattle.std.proofs.Common.{◌≡◌, ℕ, ◌+◌, ◌^◌, ◌≤◌, true, false, List, [], ◌++◌, take, Option, Some, None, Result, Ok, Err, inl, inr, refl, sym, ◌∙◌, ap, arith, subst}
use Rattle.std.proofs.lemmas.Bool.{cases_lt}
use Rattle.sym_edges.specs.Outside.{Files, Opens, Rose, Reads, MatchStop}
use Rattle.sym_edges.specs.WholeFile.{IsParted, HoldsFile, IsSteady}
use Rattle.sym_edges.proofs.ReadingLemmas.{parted_more}
use Rattle.sym_edges.specs.declared.fault.Stop.{Stop}
use Rattle.sym_edges.specs.declared.fault.Stop.TheVariants.{Fault, NoMemory}
use Rattle.sym_edges.specs.declared.whole_file.ReadEnd.{ReadEnd}
use Rattle.sym_edges.specs.declared.whole_file.ReadEnd.TheVariants.{CantOpen, CantRead, TooLong}
use Rattle.core_file.specs.HeldBlocks.{first_blocks, held_blocks, is_past, is_too_long}
use Rattle.core_file.specs.StoredFile.{IsHeld, IsPast, HeldRead}
use Rattle.core_file.specs.internal.HeldRest.{HasTaken, HeldRest}
use Rattle.core_file.proofs.BlockLemmas.{past_more}

-- Nothing was read yet.
parted_start : (left : Option (List ℕ)) → IsParted left [] left
parted_start None = refl
parted_start (Some bytes) = (bytes, refl, refl)

pub taken_start : (left : Option (List ℕ)) (bytes : List ℕ) → bytes ≡ [] → HasTaken left left bytes
unfolding is_too_long is_past held_blocks first_blocks
taken_start left bytes is = subst (HasTaken left left) (sym is) (parted_start left, refl)

-- One piece more was read.
pub taken_more : (left mid after : Option (List ℕ)) (old new piece front : List ℕ) (n room : ℕ) → HasTaken left mid old → Reads mid n room (take n piece) after → front ≡ take n piece → new ≡ old ++ front → is_too_long (old ++ front) ≡ false → HasTaken left after new
taken_more left mid after old new piece front n room taken reads same is short =
    subst (HasTaken left after) (sym is) (subst (λ l. IsParted left (old ++ l) after) (sym same) (parted_more left mid after old (take n piece) n room taken.0 reads), short)

-- There are too many bytes.
past_parted : (left after : Option (List ℕ)) (bytes : List ℕ) → IsParted left bytes after → is_too_long bytes ≡ true → IsPast left
unfolding is_too_long
past_parted None after bytes parted past = (bytes, past)
past_parted (Some whole) after bytes parted past = ap is_too_long parted.2 ∙ past_more 4096 (2 ^ 40) (2 ^ 32) bytes parted.0 (omega arith) past

pub taken_past : (left mid after : Option (List ℕ)) (old piece front : List ℕ) (n room : ℕ) → HasTaken left mid old → Reads mid n room (take n piece) after → front ≡ take n piece → is_too_long (old ++ front) ≡ true → IsPast left
taken_past left mid after old piece front n room taken reads same past =
    past_parted left after (old ++ front) (subst (λ l. IsParted left (old ++ l) after) (sym same) (parted_more left mid after old (take n piece) n room taken.0 reads)) past

-- What is known of a call that ended with a fault.
pub at_fault : {A F : Type 0} (result : Result A (Stop F)) (stopped : Stop F) (fault : F) (P : A → Type 0) (Q : F → Type 0) (R : Type 0) → result ≡ Err stopped → stopped ≡ Fault fault → MatchStop result P Q R → Q fault
at_fault {A} {F} (Ok x) stopped fault P Q R is same says = absurd (cc)
at_fault {A} {F} (Err (Fault f)) stopped fault P Q R is same says = subst Q (let one : ◌≡◌ {A = Result A (Stop F)} (Err (Fault f)) (Err (Fault fault)) = is ∙ ap Err same in cc) says
at_fault {A} {F} (Err NoMemory) stopped fault P Q R is same says = absurd (let one : ◌≡◌ {A = Result A (Stop F)} (Err NoMemory) (Err (Fault fault)) = is ∙ ap Err same in cc)

-- The file of a name in the store.
rose_later : (before mid after : ℕ) → before ≤ mid → mid ≤ after → Rose mid after → Rose before after
rose_later before mid after first second rose = λ small. elim (cases_lt (mid + 1) (2 ^ 64)) [
  | inl low ↦ (let up = rose low in omega (arith, up, first))
  | inr high ↦ omega (arith, high, small, second)
]

-- What holds of the opened file, whether its bytes are known or not.
told : (P : Option (List ℕ) → Type 0) (files : Option Files) (name : List ℕ) (left : Option (List ℕ)) → ((bytes : List ℕ) → P (Some bytes) → P None) → Opens files name left → P left → HoldsFile files name P
told P None name None some opens is = is
told P None name (Some bytes) some opens is = some bytes is
told P (Some files) name left some opens is = there (files name) refl opens
  where
    there : (o : Option (List ℕ)) → files name ≡ o → Opens (Some (λ _. o)) name left → HoldsFile (Some files) name P
    there None at opened = absurd opened
    there (Some bytes) at opened = (bytes, at, subst P opened is)

pub opened_held : (result : Result (List ℕ) (Stop ReadEnd)) (files : Option Files) (name : List ℕ) (left : Option (List ℕ)) (before mid after : ℕ) → Opens files name left → before ≤ mid → mid ≤ after → HeldRest result left mid after → HeldRead result files name before after
opened_held (Ok bytes) files name left before mid after opens first second rest = told (IsHeld bytes) files name left (λ whole held. held.1) opens rest
opened_held (Err (Fault CantOpen)) files name left before mid after opens first second rest = absurd rest
opened_held (Err (Fault CantRead)) files name left before mid after opens first second rest = rose_later before mid after first second rest
opened_held (Err (Fault TooLong)) files name left before mid after opens first second rest = told IsPast files name left (λ whole past. (whole, past)) opens rest
opened_held (Err NoMemory) files name left before mid after opens first second rest = tt

-- If no call of the store failed, its count of faults did not change.
pub steady_behind : (result : Result (List ℕ) (Stop ReadEnd)) (before mid after : ℕ) → mid ≡ before → IsSteady result mid after → IsSteady result before after
steady_behind (Ok bytes) before mid after same is = is ∙ same
steady_behind (Err (Fault CantOpen)) before mid after same is = tt
steady_behind (Err (Fault CantRead)) before mid after same is = tt
steady_behind (Err (Fault TooLong)) before mid after same is = is ∙ same
steady_behind (Err NoMemory) before mid after same is = is ∙ same
