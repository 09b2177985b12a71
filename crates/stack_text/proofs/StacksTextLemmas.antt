-- The lines of the stacks of a process: steps one after another, and the threads by all files that
-- agree with what was found.
use Rattle.std.proofs.Common.{◌≡◌, ℕ, zero, suc, ◌+◌, ◌-◌, ◌<◌, ◌≤◌, cond, nat_lt, List, [], ◌∷◌, ◌++◌, length, get_or, slice_get, take, drop, decimal, Option, None, Some, refl, sym, ap, ◌∙◌, subst, arith, append_assoc, append-nil, drop-cons}
use Rattle.std.specs.List.{AllByRecursion, flat_map}
use Rattle.std.specs.Option.{option_and_then}
use Rattle.sym_records.specs.Canon.{spaced}
use Rattle.std.proofs.lemmas.Bool.{le-ltb, lt-ltb}
use Rattle.std.proofs.lemmas.Grind.{flat_map-append}
use Rattle.std.proofs.lemmas.Option.{slice_get-get_or}
use Rattle.std.proofs.lemmas.List.{length-drop, take_all, take_more}
use Rattle.sym_edges.specs.Outside.{Files}
use Rattle.core_file.specs.Core.{CoreParts}
use Rattle.core_file.specs.declared.modules.Module.{Module}
use Rattle.core_file.specs.declared.threads.Thread.{Thread}
use Rattle.stack_walk.specs.declared.steps.Walk.{Walk}
use Rattle.stack_walk.specs.declared.steps.WalkStep.{WalkStep}
use Rattle.module_stacks.specs.SymbolFiles.{Found, Seen, found_in, seen_in, Agrees}
use Rattle.module_stacks.specs.Symbols.{name_of, holder_of, records_at}
use Rattle.module_stacks.specs.Stacks.{stack_of}
use Rattle.module_stacks.specs.Walking.{Walking, known_found, IsNameSeen, IsAsked, AreAsked}
use Rattle.module_stacks.proofs.WalkerLemmas.{records_alike, symbols_alike, agrees_before}
use Rattle.stack_text.specs.Lines.{line}
use Rattle.stack_text.specs.WalkText.{end_line}
use Rattle.stack_text.specs.Once.{once}
use Rattle.stack_text.specs.StacksText.{signal_text, stacks_text, lacks_text, module_line, modules_text, names_text, step_words, stack_step_text, stack_steps_text, skipped_line, shown_steps, thread_line, thread_text, threads_text, lack_by, lack_in, steps_lacks, threads_lacks}
use Rattle.stack_text.specs.internal.SaidLines.{HasSaid}
use Rattle.stack_text.specs.internal.Spelling.{HasSpelled}
use Rattle.stack_text.specs.declared.said_lines.SaidLines.{SaidLines}

-- Modules.

pub modules_end : (folder : List ℕ) (modules : List Module) (place : ℕ) (before text : List ℕ) → length modules ≤ place → text ≡ before ++ flat_map (module_line folder) (take place modules) → text ≡ before ++ modules_text folder modules
unfolding modules_text
modules_end folder modules place before text past is = is ∙ ap (λ l. before ++ flat_map (module_line folder) l) (take_all place modules past)

-- Steps.

-- Steps up to an end, one at a time.
pub between_more : (found : List ℕ → Found) (folder : List ℕ) (modules : List Module) (steps : List WalkStep) (number end : ℕ) (step : WalkStep) (text next all : List ℕ) → number < end → end ≤ length steps → step ≡ get_or steps number step
    → text ++ stack_steps_text found folder modules number (take (end - number) (drop number steps)) ≡ all → next ≡ text ++ stack_step_text found folder modules number step
    → next ++ stack_steps_text found folder modules (number + 1) (take (end - (number + 1)) (drop (number + 1) steps)) ≡ all
unfolding stack_steps_text
between_more found folder modules steps number end step text next all some few at is more =
    let one : number + 1 ≡ suc number = omega arith in
    let left : end - number ≡ suc (end - (number + 1)) = omega (arith, some) in
    let cut : drop number steps ≡ step ∷ drop (number + 1) steps = drop-cons steps number step (omega (arith, some, few)) ∙ ap (λ s. s ∷ drop (suc number) steps) (sym at) ∙ ap (λ n. step ∷ drop n steps) (sym one) in
    let both : take (end - number) (drop number steps) ≡ step ∷ take (end - (number + 1)) (drop (number + 1) steps) = ap (λ n. take n (drop number steps)) left ∙ ap (take (suc (end - (number + 1)))) cut in
    ap (λ t. t ++ stack_steps_text found folder modules (number + 1) (take (end - (number + 1)) (drop (number + 1) steps))) more
    ∙ append_assoc text (stack_step_text found folder modules number step) (stack_steps_text found folder modules (number + 1) (take (end - (number + 1)) (drop (number + 1) steps)))
    ∙ ap (λ rest. text ++ stack_steps_text found folder modules number rest) (sym both)
    ∙ is

none_taken : {A : Type 0} (n : ℕ) (xs : List A) → n ≡ 0 → take n xs ≡ []
none_taken n xs none = ap (λ m. take m xs) none

pub between_all : (found : List ℕ → Found) (folder : List ℕ) (modules : List Module) (steps : List WalkStep) (number end : ℕ) (text all : List ℕ) → end ≤ number → text ++ stack_steps_text found folder modules number (take (end - number) (drop number steps)) ≡ all → text ≡ all
unfolding stack_steps_text
between_all found folder modules steps number end text all past is =
    sym (append-nil text) ∙ ap (λ rest. text ++ stack_steps_text found folder modules number rest) (sym (none_taken (end - number) (drop number steps) (omega (arith, past)))) ∙ is

pub shown_all : (found : List ℕ → Found) (folder : List ℕ) (modules : List Module) (steps : List WalkStep) (before text : List ℕ) → length steps ≤ 1024 → text ≡ before ++ stack_steps_text found folder modules 0 (take (length steps - 0) (drop 0 steps)) → text ≡ before ++ shown_steps found folder modules steps
unfolding shown_steps
shown_all found folder modules steps before text few is =
    is ∙ ap (λ l. before ++ stack_steps_text found folder modules 0 l) (take_all (length steps - 0) steps (omega arith))
    ∙ ap (λ b. before ++ cond b (stack_steps_text found folder modules 0 (take 512 steps) ++ (skipped_line (length steps - 1024) ++ stack_steps_text found folder modules (length steps - 512) (drop (length steps - 512) steps))) (stack_steps_text found folder modules 0 steps)) (sym (le-ltb 1024 (length steps) few))

pub shown_ends : (found : List ℕ → Found) (folder : List ℕ) (modules : List Module) (steps : List WalkStep) (before front mid text : List ℕ) → 1024 < length steps → front ≡ before ++ stack_steps_text found folder modules 0 (take (512 - 0) (drop 0 steps)) → mid ≡ front ++ skipped_line (length steps - 1024)
    → text ≡ mid ++ stack_steps_text found folder modules (length steps - 512) (take (length steps - (length steps - 512)) (drop (length steps - 512) steps)) → text ≡ before ++ shown_steps found folder modules steps
unfolding shown_steps
shown_ends found folder modules steps before front mid text many first then last =
    let head : List ℕ = stack_steps_text found folder modules 0 (take 512 steps) in
    let line : List ℕ = skipped_line (length steps - 1024) in
    let tail : List ℕ = stack_steps_text found folder modules (length steps - 512) (drop (length steps - 512) steps) in
    last
    ∙ ap (λ l. mid ++ stack_steps_text found folder modules (length steps - 512) l) (take_all (length steps - (length steps - 512)) (drop (length steps - 512) steps) (short steps))
    ∙ ap (λ m. m ++ tail) (then ∙ ap (λ f. f ++ line) first)
    ∙ append_assoc (before ++ head) line tail ∙ append_assoc before head (line ++ tail)
    ∙ ap (λ b. before ++ cond b (head ++ (line ++ tail)) (stack_steps_text found folder modules 0 steps)) (sym (lt-ltb 1024 (length steps) many))
  where
    short : (xs : List WalkStep) → length (drop (length xs - 512) xs) ≤ length xs - (length xs - 512)
    short xs = let is = length-drop (length xs - 512) xs in omega (arith, is)

-- Steps by all files that agree with what was found.

records_same : (w : Walking) (got : Files) (a : ℕ) → Agrees got (seen_in w.known) → IsAsked w a → records_at (known_found w.known) w.folder w.core.modules a ≡ records_at (λ path. found_in (got path)) w.folder w.core.modules a
unfolding records_at
records_same w got a agrees asked = sym (records_alike w.known got w.folder (holder_of w.core.modules a) agrees asked)

steps_same : (w : Walking) (got : Files) (number : ℕ) (steps : List WalkStep) → Agrees got (seen_in w.known) → AreAsked w steps → stack_steps_text (known_found w.known) w.folder w.core.modules number steps ≡ stack_steps_text (λ path. found_in (got path)) w.folder w.core.modules number steps
unfolding stack_steps_text
steps_same w got number [] agrees asked = refl
steps_same w got number (step ∷ steps) agrees asked =
    let head : List ℕ = line (spaced (decimal number) (step_words step.rip (holder_of w.core.modules step.at))) in
    ap (λ r. (head ++ names_text r step.answer) ++ stack_steps_text (known_found w.known) w.folder w.core.modules (number + 1) steps) (records_same w got step.at agrees asked.0)
    ∙ ap (λ l. (head ++ names_text (records_at (λ path. found_in (got path)) w.folder w.core.modules step.at) step.answer) ++ l) (steps_same w got (number + 1) steps agrees asked.1)

all_taken : {A : Type 0} (P : A → Type 0) (n : ℕ) (xs : List A) → AllByRecursion P xs → AllByRecursion P (take n xs)
all_taken P zero xs all = tt
all_taken P (suc n) [] all = tt
all_taken P (suc n) (x ∷ xs) all = (all.0, all_taken P n xs all.1)

all_dropped : {A : Type 0} (P : A → Type 0) (n : ℕ) (xs : List A) → AllByRecursion P xs → AllByRecursion P (drop n xs)
all_dropped P zero xs all = all
all_dropped P (suc n) [] all = tt
all_dropped P (suc n) (x ∷ xs) all = all_dropped P n xs all.1

shown_same : (w : Walking) (got : Files) (steps : List WalkStep) → Agrees got (seen_in w.known) → AreAsked w steps → shown_steps (known_found w.known) w.folder w.core.modules steps ≡ shown_steps (λ path. found_in (got path)) w.folder w.core.modules steps
unfolding shown_steps
shown_same w got steps agrees asked =
    let first : List WalkStep = take 512 steps in
    let last : List WalkStep = drop (length steps - 512) steps in
    let line : List ℕ = skipped_line (length steps - 1024) in
    let head = steps_same w got 0 first agrees (all_taken (λ step. IsAsked w step.at) 512 steps asked) in
    let tail = steps_same w got (length steps - 512) last agrees (all_dropped (λ step. IsAsked w step.at) (length steps - 512) steps asked) in
    ap (λ h. cond (nat_lt 1024 (length steps)) (h ++ (line ++ stack_steps_text (known_found w.known) w.folder w.core.modules (length steps - 512) last)) (stack_steps_text (known_found w.known) w.folder w.core.modules 0 steps)) head
    ∙ ap (λ t. cond (nat_lt 1024 (length steps)) (stack_steps_text (λ path. found_in (got path)) w.folder w.core.modules 0 first ++ (line ++ t)) (stack_steps_text (known_found w.known) w.folder w.core.modules 0 steps)) tail
    ∙ ap (λ all. cond (nat_lt 1024 (length steps)) (stack_steps_text (λ path. found_in (got path)) w.folder w.core.modules 0 first ++ (line ++ stack_steps_text (λ path. found_in (got path)) w.folder w.core.modules (length steps - 512) last)) all) (steps_same w got 0 steps agrees asked)

thread_same : (w : Walking) (got : Files) (number : ℕ) (walk : Walk) → Agrees got (seen_in w.known) → AreAsked w walk.steps → thread_text (known_found w.known) w.folder w.core.modules number walk ≡ thread_text (λ path. found_in (got path)) w.folder w.core.modules number walk
unfolding thread_text
thread_same w got number walk agrees asked = ap (λ l. thread_line number ++ (l ++ end_line walk.end)) (shown_same w got walk.steps agrees asked)

lack_same : (w : Walking) (got : Files) (m : Option Module) → Agrees got (seen_in w.known) → IsNameSeen w.known (option_and_then (name_of w.folder) m) → lack_in (known_found w.known) w.folder m ≡ lack_in (λ path. found_in (got path)) w.folder m
lack_same w got None agrees seen = refl
lack_same w got (Some m) agrees seen = ap (lack_by w.folder m) (sym (symbols_alike w.known got w.folder m agrees seen))

lacks_same : (w : Walking) (got : Files) (steps : List WalkStep) → Agrees got (seen_in w.known) → AreAsked w steps → steps_lacks (known_found w.known) w.folder w.core.modules steps ≡ steps_lacks (λ path. found_in (got path)) w.folder w.core.modules steps
unfolding steps_lacks
lacks_same w got [] agrees asked = refl
lacks_same w got (step ∷ steps) agrees asked =
    ap (λ l. l ++ steps_lacks (known_found w.known) w.folder w.core.modules steps) (lack_same w got (holder_of w.core.modules step.at) agrees asked.0)
    ∙ ap (λ l. lack_in (λ path. found_in (got path)) w.folder (holder_of w.core.modules step.at) ++ l) (lacks_same w got steps agrees asked.1)

-- Threads.

pub spelled_none : (seen : Seen) (folder : List ℕ) (core : CoreParts) (text : List ℕ) (said : SaidLines) (lines : List (List ℕ)) → HasSaid said lines → HasSpelled seen folder core [] text text said lines
unfolding threads_text threads_lacks
spelled_none seen folder core text said lines has = record {
  text_is = λ got agrees. sym (append-nil text);
  lacks = λ got agrees. subst (HasSaid said) (sym (append-nil lines)) has;
}

threads_more : (got : Files) (folder : List ℕ) (core : CoreParts) (threads : List Thread) (thread : Thread) → threads_text got folder core (threads ++ thread ∷ []) ≡ threads_text got folder core threads ++ thread_text (λ path. found_in (got path)) folder core.modules thread.number (stack_of got folder core thread)
unfolding threads_text
threads_more got folder core [] thread = append-nil (thread_text (λ path. found_in (got path)) folder core.modules thread.number (stack_of got folder core thread))
threads_more got folder core (other ∷ threads) thread =
    let own : List ℕ = thread_text (λ path. found_in (got path)) folder core.modules other.number (stack_of got folder core other) in
    ap (λ l. own ++ l) (threads_more got folder core threads thread)
    ∙ sym (append_assoc own (threads_text got folder core threads) (thread_text (λ path. found_in (got path)) folder core.modules thread.number (stack_of got folder core thread)))

lacks_more : (got : Files) (folder : List ℕ) (core : CoreParts) (threads : List Thread) (thread : Thread) → threads_lacks got folder core (threads ++ thread ∷ []) ≡ threads_lacks got folder core threads ++ steps_lacks (λ path. found_in (got path)) folder core.modules (stack_of got folder core thread).steps
unfolding threads_lacks
lacks_more got folder core threads thread =
    flat_map-append (λ (t : Thread). steps_lacks (λ path. found_in (got path)) folder core.modules (stack_of got folder core t).steps) threads (thread ∷ [])
    ∙ ap (λ l. threads_lacks got folder core threads ++ l) (append-nil (steps_lacks (λ path. found_in (got path)) folder core.modules (stack_of got folder core thread).steps))

pub thread_there : (threads : List Thread) (i : ℕ) (thread : Thread) → i < length threads → slice_get threads i ≡ Some thread → thread ≡ get_or threads i thread
thread_there threads i thread few is = the_same (sym is ∙ slice_get-get_or threads i thread few)
  where
    the_same : {x y : Thread} → ◌≡◌ {A = Option Thread} (Some x) (Some y) → x ≡ y
    the_same same = cc

pub spelled_more : (seen : Seen) (w : Walking) (folder : List ℕ) (core : CoreParts) (threads : List Thread) (i : ℕ) (thread : Thread) (walk : Walk) (before text next : List ℕ) (said said_next : SaidLines) (lines : List (List ℕ))
    → w.folder ≡ folder → w.core ≡ core → i < length threads → thread ≡ get_or threads i thread → ((name : List ℕ) (found : Found) → seen name ≡ Some found → seen_in w.known name ≡ Some found)
    → HasSpelled seen folder core (take i threads) before text said lines
    → AreAsked w walk.steps → ((got : Files) → Agrees got (seen_in w.known) → walk ≡ stack_of got folder core thread)
    → ((ls : List (List ℕ)) → HasSaid said ls → HasSaid said_next (ls ++ steps_lacks (known_found w.known) w.folder w.core.modules walk.steps))
    → next ≡ text ++ thread_text (known_found w.known) w.folder w.core.modules thread.number walk
    → HasSpelled (seen_in w.known) folder core (take (i + 1) threads) before next said_next lines
spelled_more seen w folder core threads i thread walk before text next said said_next lines folder_is core_is few at stays has asked walks says more =
    let cut : take (i + 1) threads ≡ take i threads ++ thread ∷ [] = take_more threads i thread few ∙ ap (λ (x : Thread). take i threads ++ x ∷ []) (sym at) in
    record {
      text_is = λ got agrees.
          more
          ∙ ap (λ t. t ++ thread_text (known_found w.known) w.folder w.core.modules thread.number walk) (has.text_is got (agrees_before got seen (seen_in w.known) stays agrees))
          ∙ ap (λ l. (before ++ threads_text got folder core (take i threads)) ++ l) (thread_is got agrees)
          ∙ append_assoc before (threads_text got folder core (take i threads)) (thread_text (λ path. found_in (got path)) folder core.modules thread.number (stack_of got folder core thread))
          ∙ ap (λ l. before ++ l) (sym (threads_more got folder core (take i threads) thread))
          ∙ ap (λ l. before ++ threads_text got folder core l) (sym cut);
      lacks = λ got agrees.
          subst (HasSaid said_next)
          (append_assoc lines (threads_lacks got folder core (take i threads)) (steps_lacks (known_found w.known) w.folder w.core.modules walk.steps)
          ∙ ap (λ l. lines ++ (threads_lacks got folder core (take i threads) ++ l)) (lacks_is got agrees)
          ∙ ap (λ l. lines ++ l) (sym (lacks_more got folder core (take i threads) thread))
          ∙ ap (λ l. lines ++ threads_lacks got folder core l) (sym cut))
          (says (lines ++ threads_lacks got folder core (take i threads)) (has.lacks got (agrees_before got seen (seen_in w.known) stays agrees)));
    }
  where
    thread_is : (got : Files) → Agrees got (seen_in w.known) → thread_text (known_found w.known) w.folder w.core.modules thread.number walk ≡ thread_text (λ path. found_in (got path)) folder core.modules thread.number (stack_of got folder core thread)
    thread_is got agrees =
        thread_same w got thread.number walk agrees asked
        ∙ ap (λ f. thread_text (λ path. found_in (got path)) f w.core.modules thread.number walk) folder_is
        ∙ ap (λ (c : CoreParts). thread_text (λ path. found_in (got path)) folder c.modules thread.number walk) core_is
        ∙ ap (λ k. thread_text (λ path. found_in (got path)) folder core.modules thread.number k) (walks got agrees)

    lacks_is : (got : Files) → Agrees got (seen_in w.known) → steps_lacks (known_found w.known) w.folder w.core.modules walk.steps ≡ steps_lacks (λ path. found_in (got path)) folder core.modules (stack_of got folder core thread).steps
    lacks_is got agrees =
        lacks_same w got walk.steps agrees asked
        ∙ ap (λ f. steps_lacks (λ path. found_in (got path)) f w.core.modules walk.steps) folder_is
        ∙ ap (λ (c : CoreParts). steps_lacks (λ path. found_in (got path)) folder c.modules walk.steps) core_is
        ∙ ap (λ (k : Walk). steps_lacks (λ path. found_in (got path)) folder core.modules k.steps) (walks got agrees)

pub spelled_all : (seen : Seen) (folder : List ℕ) (core : CoreParts) (threads : List Thread) (i : ℕ) (before text : List ℕ) (said : SaidLines) (lines : List (List ℕ)) → length threads ≤ i → HasSpelled seen folder core (take i threads) before text said lines → HasSpelled seen folder core threads before text said lines
spelled_all seen folder core threads i before text said lines past has = subst (λ ts. HasSpelled seen folder core ts before text said lines) (take_all i threads past) has

-- Missing records for the modules of steps.

pub lacks_said : (found : List ℕ → Found) (folder : List ℕ) (modules : List Module) (steps : List WalkStep) (i : ℕ) (step : WalkStep) (said : SaidLines) (lines : List (List ℕ)) → i < length steps → step ≡ get_or steps i step
    → HasSaid said ((lines ++ flat_map (λ s. lack_in found folder (holder_of modules s.at)) (take i steps)) ++ lack_in found folder (holder_of modules step.at)) → HasSaid said (lines ++ flat_map (λ s. lack_in found folder (holder_of modules s.at)) (take (i + 1) steps))
lacks_said found folder modules steps i step said lines few at has =
    let lack : WalkStep → List (List ℕ) = (λ s. lack_in found folder (holder_of modules s.at)) in
    subst (HasSaid said)
    (append_assoc lines (flat_map lack (take i steps)) (lack step)
    ∙ ap (λ l. lines ++ (flat_map lack (take i steps) ++ l)) (sym (append-nil (lack step)))
    ∙ ap (λ l. lines ++ l) (sym (flat_map-append lack (take i steps) (step ∷ [])))
    ∙ ap (λ l. lines ++ flat_map lack l) (ap (λ (x : WalkStep). take i steps ++ x ∷ []) at ∙ sym (take_more steps i step few)))
    has

pub lacks_all : (found : List ℕ → Found) (folder : List ℕ) (modules : List Module) (steps : List WalkStep) (i : ℕ) (said : SaidLines) (lines : List (List ℕ)) → length steps ≤ i → HasSaid said (lines ++ flat_map (λ s. lack_in found folder (holder_of modules s.at)) (take i steps)) → HasSaid said (lines ++ steps_lacks found folder modules steps)
unfolding steps_lacks
lacks_all found folder modules steps i said lines past has = subst (λ ss. HasSaid said (lines ++ flat_map (λ s. lack_in found folder (holder_of modules s.at)) ss)) (take_all i steps past) has

-- The whole texts.

pub all_text : (got : Files) (folder : List ℕ) (core : CoreParts) (empty first second text : List ℕ) → empty ≡ [] → first ≡ empty ++ signal_text core.threads → second ≡ first ++ modules_text folder core.modules → text ≡ second ++ threads_text got folder core core.threads → text ≡ stacks_text got folder core
unfolding stacks_text
all_text got folder core empty first second text none one two all =
    all ∙ ap (λ s. s ++ threads_text got folder core core.threads) (two ∙ ap (λ f. f ++ modules_text folder core.modules) (one ∙ ap (λ e. e ++ signal_text core.threads) none))
    ∙ append_assoc (signal_text core.threads) (modules_text folder core.modules) (threads_text got folder core core.threads)

pub all_lacks : (got : Files) (folder : List ℕ) (core : CoreParts) (text : List ℕ) → text ≡ flat_map (λ line. line) (once (threads_lacks got folder core core.threads)) → text ≡ lacks_text got folder core
unfolding lacks_text
all_lacks got folder core text is = is
