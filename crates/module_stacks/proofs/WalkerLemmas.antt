-- Stacks by what was found of the symbol files, for `StackWalker`.
use Rattle.std.proofs.Common.{◌≡◌, ℕ, zero, suc, ◌^◌, IfOk, OnOk, ◌<◌, true, is_some, List, [], ◌∷◌, ◌++◌, length, map, get_or, slice_get, Option, None, Some, Result, Ok, Err, refl, sym, ap, ◌∙◌, subst}
use Rattle.std.proofs.lemmas.Option.{slice_get-get_or}
use Rattle.std.specs.Borrow.{Bor}
use Rattle.std.specs.Option.{option_map, option_and_then, option_copied}
use Rattle.sym_edges.specs.Outside.{Files}
use Rattle.core_file.specs.Code.{is_code}
use Rattle.core_file.specs.Core.{CoreParts}
use Rattle.core_file.specs.declared.modules.Module.{Module}
use Rattle.sym_edges.specs.declared.fault.OutOfMemory.{OutOfMemory}
use Rattle.cfi_eval.specs.declared.registers.Regs.{Regs}
use Rattle.core_file.specs.declared.threads.Thread.{Thread}
use Rattle.stack_walk.specs.Walk.{step_known, step_at, walk_from, first_place}
use Rattle.stack_walk.specs.declared.steps.Walk.{Walk}
use Rattle.stack_walk.specs.declared.callers.Place.{Place}
use Rattle.stack_walk.specs.declared.known.Known.{Known}
use Rattle.stack_walk.specs.declared.steps.WalkStep.{WalkStep}
use Rattle.module_stacks.specs.CoreRuns.{core_runs}
use Rattle.module_stacks.specs.SymbolFiles.{Found, found_in, Seen, seen_in, Agrees, AsksFresh, Learns}
use Rattle.module_stacks.specs.Symbols.{name_of, holder_of, by_found, by_path, by_name, symbols_of, records_by, records_in, records_at}
use Rattle.module_stacks.specs.Stacks.{regs_of, process_by, process_of, stack_of}
use Rattle.module_stacks.specs.Walking.{Walking, known_found, IsPathSeen, IsNameSeen, IsAsked, AreAsked, path_of, IsPathOf}
use Rattle.module_stacks.specs.declared.names.SymbolName.{SymbolName}
use Rattle.module_stacks.proofs.FileLemmas.{all_both, asks_weaker, learns_weaker}

-- Names by places.

mapped_at : {A B : Type 0} (f : A → B) (xs : List A) (place : ℕ) → slice_get (map f xs) place ≡ option_map f (slice_get xs place)
mapped_at f [] place = refl
mapped_at f (x ∷ xs) zero = refl
mapped_at f (x ∷ xs) (suc place) = mapped_at f xs place

joined : {A B : Type 0} (f : A → Option B) (o : Option A) (b : Option B) → option_map f o ≡ Some b → option_and_then f o ≡ b
joined f None b is = absurd (cc)
joined f (Some x) b is = cc

pub name_there : (folder : List ℕ) (modules : List Module) (names : List (Option SymbolName)) (place : ℕ) (name : Option SymbolName) → names ≡ map (name_of folder) modules → place < length names → name ≡ get_or names place name → option_and_then (name_of folder) (slice_get modules place) ≡ name
name_there folder modules names place name are low is =
    let there : slice_get names place ≡ Some name = slice_get-get_or names place name low ∙ ap Some (sym is) in
    joined (name_of folder) (slice_get modules place) name (sym (mapped_at (name_of folder) modules place) ∙ ap (λ l. slice_get l place) (sym are) ∙ there)

-- What was found.

pub known_is : (known : List (List ℕ × Found)) (path : List ℕ) (found : Option (Bor Found)) → option_copied found ≡ seen_in known path → known_found known path ≡ option_and_then (λ (f : Bor Found). f.now) found
known_is known path None is = ap (option_and_then (λ (f : Found). f)) (sym is)
known_is known path (Some f) is = ap (option_and_then (λ (f : Found). f)) (sym is)

-- Files that agree with what was found have it under each path that was asked for.
found_alike : (known : List (List ℕ × Found)) (got : Files) (path : List ℕ) → Agrees got (seen_in known) → is_some (seen_in known path) ≡ true → found_in (got path) ≡ known_found known path
found_alike known got path agrees some = go (seen_in known path) refl some
  where
    go : (o : Option Found) → seen_in known path ≡ o → is_some o ≡ true → found_in (got path) ≡ option_and_then (λ (f : Found). f) o
    go (Some found) is some = agrees path found is
    go None is some = absurd (cc)

pub names_alike : (known : List (List ℕ × Found)) (got : Files) (name : Option SymbolName) → Agrees got (seen_in known) → IsNameSeen known name → by_name (λ path. found_in (got path)) name ≡ by_name (known_found known) name
names_alike known got None agrees seen = refl
names_alike known got (Some name) agrees seen = go name.path seen
  where
    go : (path : Option (List ℕ)) → IsPathSeen known path → by_path (λ path. found_in (got path)) name.id path ≡ by_path (known_found known) name.id path
    go None seen = refl
    go (Some path) seen = ap (by_found name.id) (found_alike known got path agrees seen)

pub records_alike : (known : List (List ℕ × Found)) (got : Files) (folder : List ℕ) (m : Option Module) → Agrees got (seen_in known) → IsNameSeen known (option_and_then (name_of folder) m) → records_in (λ path. found_in (got path)) folder m ≡ records_in (known_found known) folder m
unfolding symbols_of
records_alike known got folder None agrees seen = refl
records_alike known got folder (Some m) agrees seen = ap (records_by m.base) (names_alike known got (name_of folder m) agrees seen)

pub symbols_alike : (known : List (List ℕ × Found)) (got : Files) (folder : List ℕ) (m : Module) → Agrees got (seen_in known) → IsNameSeen known (name_of folder m) → symbols_of (λ path. found_in (got path)) folder m ≡ symbols_of (known_found known) folder m
unfolding symbols_of
symbols_alike known got folder m agrees seen = names_alike known got (name_of folder m) agrees seen

-- Steps.

pub step_by_known : (found : List ℕ → Found) (folder : List ℕ) (core : CoreParts) (known : Known) (here : Place) (step : WalkStep) → known.records ≡ records_at found folder core.modules here.at → known.is_code ≡ is_code core.memory core.modules here.at
    → step ≡ step_known true known (core_runs core.memory) here → step ≡ step_at (process_by found folder core) here
unfolding process_by
step_by_known found folder core known here step records code is =
    is
    ∙ ap (λ r. step_known true (record { records = r; is_code = known.is_code }) (core_runs core.memory) here) records
    ∙ ap (λ c. step_known true (record { records = records_at found folder core.modules here.at; is_code = c }) (core_runs core.memory) here) code

pub step_alike : (w : Walking) (got : Files) (here : Place) → Agrees got (seen_in w.known) → IsAsked w here.at → step_at (process_by (known_found w.known) w.folder w.core) here ≡ step_at (process_of got w.folder w.core) here
unfolding process_by records_at
step_alike w got here agrees asked =
    ap (λ r. step_known true (record { records = r; is_code = is_code w.core.memory w.core.modules here.at }) (core_runs w.core.memory) here) (sym (records_alike w.known got w.folder (holder_of w.core.modules here.at) agrees asked))

pub agrees_before : (got : Files) (old new : Seen) → ((name : List ℕ) (found : Found) → old name ≡ Some found → new name ≡ Some found) → Agrees got new → Agrees got old
agrees_before got old new stays agrees = λ name found is. agrees name found (stays name found is)

-- A step by what was found is the step by all files that agree with it.
pub step_got : (w : Walking) (got : Files) (core : CoreParts) (folder : List ℕ) (here : Place) (step : WalkStep) → w.core ≡ core → w.folder ≡ folder → Agrees got (seen_in w.known) → IsAsked w here.at → step ≡ step_at (process_by (known_found w.known) w.folder w.core) here
    → step ≡ step_at (process_of got folder core) here
step_got w got core folder here step core_is folder_is agrees asked is =
    is ∙ step_alike w got here agrees asked
    ∙ ap (λ c. step_at (process_of got w.folder c) here) core_is ∙ ap (λ f. step_at (process_of got f core) here) folder_is

-- The stack of a thread.
pub stack_is : (result : Result Walk OutOfMemory) (seen : Seen) (core : CoreParts) (folder : List ℕ) (thread : Thread) (regs : Regs) (first : Place) → regs ≡ regs_of thread.registers → first ≡ first_place regs thread.registers.rip
    → IfOk result (λ walk. (got : Files) → Agrees got seen → walk ≡ walk_from (process_of got folder core) (2 ^ 20) first) → IfOk result (λ walk. (got : Files) → Agrees got seen → walk ≡ stack_of got folder core thread)
unfolding stack_of
stack_is (Err fault) seen core folder thread regs first regs_is first_is walks = tt
stack_is (Ok walk) seen core folder thread regs first regs_is first_is walks = λ got agrees.
    walks got agrees ∙ ap (walk_from (process_of got folder core) (2 ^ 20)) (first_is ∙ ap (λ r. first_place r thread.registers.rip) regs_is)

-- Names that were asked for.

is_some_later : (old new : Seen) (name : List ℕ) → ((name : List ℕ) (found : Found) → old name ≡ Some found → new name ≡ Some found) → is_some (old name) ≡ true → is_some (new name) ≡ true
is_some_later old new name stays some = go (old name) refl some
  where
    go : (o : Option Found) → old name ≡ o → is_some o ≡ true → is_some (new name) ≡ true
    go (Some found) is some = ap is_some (stays name found is)
    go None is some = absurd (cc)

name_seen_later : (old new : List (List ℕ × Found)) (name : Option SymbolName) → ((name : List ℕ) (found : Found) → seen_in old name ≡ Some found → seen_in new name ≡ Some found) → IsNameSeen old name → IsNameSeen new name
name_seen_later old new None stays seen = tt
name_seen_later old new (Some name) stays seen = go name.path seen
  where
    go : (path : Option (List ℕ)) → IsPathSeen old path → IsPathSeen new path
    go None seen = tt
    go (Some path) seen = is_some_later (seen_in old) (seen_in new) path stays seen

asked_later : (old new : Walking) (a : ℕ) → new.core ≡ old.core → new.folder ≡ old.folder → ((name : List ℕ) (found : Found) → seen_in old.known name ≡ Some found → seen_in new.known name ≡ Some found) → IsAsked old a → IsAsked new a
asked_later old new a core folder stays asked =
    subst (λ (c : CoreParts). IsNameSeen new.known (option_and_then (name_of new.folder) (holder_of c.modules a))) (sym core)
    (subst (λ f. IsNameSeen new.known (option_and_then (name_of f) (holder_of old.core.modules a))) (sym folder)
    (name_seen_later old.known new.known (option_and_then (name_of old.folder) (holder_of old.core.modules a)) stays asked))

pub are_asked_later : (old new : Walking) (steps : List WalkStep) → new.core ≡ old.core → new.folder ≡ old.folder → ((name : List ℕ) (found : Found) → seen_in old.known name ≡ Some found → seen_in new.known name ≡ Some found) → AreAsked old steps → AreAsked new steps
are_asked_later old new [] core folder stays asked = tt
are_asked_later old new (step ∷ steps) core folder stays asked = (asked_later old new step.at core folder stays asked.0, are_asked_later old new steps core folder stays asked.1)

-- One step more.
pub place_of : (w : Walking) (here : Place) (step : WalkStep) → step ≡ step_at (process_by (known_found w.known) w.folder w.core) here → step.at ≡ here.at
unfolding step_known
place_of w here step is = ap (λ (s : WalkStep). s.at) is

pub asked_more : (old new : Walking) (steps next : List WalkStep) (step : WalkStep) (a : ℕ) → new.core ≡ old.core → new.folder ≡ old.folder → ((name : List ℕ) (found : Found) → seen_in old.known name ≡ Some found → seen_in new.known name ≡ Some found) → AreAsked old steps → IsAsked new a → step.at ≡ a → next ≡ steps ++ step ∷ [] → AreAsked new next
asked_more old new steps next step a core folder stays asked there at is =
    subst (AreAsked new) (sym is) (all_both (λ (s : WalkStep). IsAsked new s.at) steps (step ∷ []) (are_asked_later old new steps core folder stays asked) (subst (IsAsked new) (sym at) there, tt))

-- The path of a module's symbol file.
path_same : (w v : Walking) → w.core ≡ v.core → w.folder ≡ v.folder → (name : List ℕ) → IsPathOf w name → IsPathOf v name
path_same w v core folder name path = (
  path.0,
  ap (λ (c : CoreParts). option_and_then (λ m. path_of (name_of v.folder m)) (slice_get c.modules path.0)) (sym core)
      ∙ ap (λ f. option_and_then (λ m. path_of (name_of f m)) (slice_get w.core.modules path.0)) (sym folder) ∙ path.1,
)

pub asks_at : (w v : Walking) (asked after : List (List ℕ)) (old : Seen) → w.core ≡ v.core → w.folder ≡ v.folder → AsksFresh (IsPathOf w) old asked after → AsksFresh (IsPathOf v) old asked after
asks_at w v asked after old core folder asks = asks_weaker (IsPathOf w) (IsPathOf v) (path_same w v core folder) asked after old asks

pub learns_at : (w v : Walking) (files : Option Files) (asked after : List (List ℕ)) (faults now : ℕ) (old new : Seen) → w.core ≡ v.core → w.folder ≡ v.folder → Learns (IsPathOf w) files asked after faults now old new → Learns (IsPathOf v) files asked after faults now old new
learns_at w v files asked after faults now old new core folder learns = learns_weaker (IsPathOf w) (IsPathOf v) (path_same w v core folder) files asked after faults now old new learns

-- The only name for which the store was asked at an address.
pub path_there : (w : Walking) (place : ℕ) (name : SymbolName) (path : List ℕ) → option_and_then (name_of w.folder) (slice_get w.core.modules place) ≡ Some name → name.path ≡ Some path → (other : List ℕ) → other ≡ path → IsPathOf w other
path_there w place name path is has other same = (place, go (slice_get w.core.modules place) is ∙ has ∙ ap Some (sym same))
  where
    go : (m : Option Module) → option_and_then (name_of w.folder) m ≡ Some name → option_and_then (λ m. path_of (name_of w.folder m)) m ≡ name.path
    go None gone = absurd (cc)
    go (Some m) named = ap path_of named

pub learns_ok : {A F : Type 0} (r : Result A F) (P Q : List ℕ → Type 0) (files : Option Files) (asked after : List (List ℕ)) (faults now : ℕ) (old new : Seen) → ((name : List ℕ) → P name → Q name) → OnOk r (Learns P files asked after faults now old new) → OnOk r (Learns Q files asked after faults now old new)
learns_ok (Ok x) P Q files asked after faults now old new weaker learns = learns_weaker P Q weaker files asked after faults now old new learns
learns_ok (Err e) P Q files asked after faults now old new weaker learns = tt
