-- The byte at an address, by runs and by segments.
use Rattle.std.proofs.Common.{◌≡◌, ℕ, ◌+◌, ◌-◌, ◌<◌, ◌^◌, Bool, true, false, cond, List, [], ◌∷◌, ◌++◌, Option, Some, None, length, drop, find, refl, sym, ◌∙◌, ap, arith, length-drop, if◌then◌else◌}
use Rattle.std.specs.Prelude.{◌&&◌, ◌==◌, nat_lt, nat_le, slice_index}
use Rattle.std.specs.Option.{option_or, option_map}
use Rattle.std.proofs.lemmas.List.{get_or-drop, get_or-take, length-take}
use Rattle.std.proofs.lemmas.Bool.{lt-ltb}
use Rattle.elf_sections.specs.ElfNumbers.{pt_load}
use Rattle.cfi_eval.specs.declared.memory.MemRun.{MemRun}
use Rattle.cfi_eval.specs.Bytes as runs
use Rattle.core_file.specs.declared.segments.Segment.{Segment}
use Rattle.core_file.specs.Memory as memory
use Rattle.core_file.specs.Memory.{Memory, present, gives, given}
use Rattle.core_file.proofs.MemoryLemmas.{gives_low, gives_end}
use Rattle.module_stacks.specs.CoreRuns.{run_of, loaded_run, runs_of, core_runs}

or_assoc : {X : Type 0} (x y z : Option X) → option_or x (option_or y z) ≡ option_or (option_or x y) z
or_assoc (Some x) y z = refl
or_assoc None y z = refl

or_none : {X : Type 0} (x : Option X) → option_or x None ≡ x
or_none (Some x) = refl
or_none None = refl

-- The byte in two lists of runs is that of the later list, if it has one.
pub byte_append : (xs ys : List MemRun) (a : ℕ) → runs.byte_at (xs ++ ys) a ≡ option_or (runs.byte_at ys a) (runs.byte_at xs a)
unfolding runs.byte_at
byte_append [] ys a = sym (or_none (runs.byte_at ys a))
byte_append (x ∷ xs) ys a =
    let own : Option ℕ = if runs.holds a x then Some (slice_index x.bytes (a - x.start)) else None in
    ap (λ o. option_or o own) (byte_append xs ys a) ∙ sym (or_assoc (runs.byte_at ys a) (runs.byte_at xs a) own)

-- The run of a segment is as long as the segment's bytes in the file.
run_length : (file : List ℕ) (s : Segment) → length (run_of file s).bytes ≡ present file s
unfolding run_of present
run_length file s = length-take (present file s) (drop s.offset file) ∙ omega (arith, length-drop s.offset file)

run_byte : (file : List ℕ) (s : Segment) (a : ℕ) → gives file a s ≡ true → slice_index (run_of file s).bytes (a - s.address) ≡ given file a s
unfolding run_of given
run_byte file s a is =
    let inside : a - s.address < present file s = omega (arith, gives_low file a s is, gives_end file a s is) in
    get_or-take (present file s) (drop s.offset file) (a - s.address) 0 inside ∙ get_or-drop s.offset file (a - s.address) 0

run_holds : (file : List ℕ) (s : Segment) (a : ℕ) → (s.kind == pt_load) ≡ true → runs.holds a (run_of file s) ≡ gives file a s
unfolding gives run_of
run_holds file s a load = rw load (ap (λ n. nat_le s.address a && nat_lt a (s.address + n)) (run_length file s))

not_load : (file : List ℕ) (s : Segment) (a : ℕ) → (s.kind == pt_load) ≡ false → gives file a s ≡ false
unfolding gives
not_load file s a other = rw other refl

same_where : {X : Type 0} (b : Bool) (x y : X) → (b ≡ true → x ≡ y) → (if b then Some x else None) ≡ (if b then Some y else None)
same_where true x y is = ap Some (is refl)
same_where false x y is = refl

segment_by : (file : List ℕ) (s : Segment) (a : ℕ) (load : Bool) → (s.kind == pt_load) ≡ load → runs.byte_at (if load then run_of file s ∷ [] else []) a ≡ (if gives file a s then Some (given file a s) else None)
unfolding runs.byte_at run_of
segment_by file s a true load =
    ap (λ b. if b then Some (slice_index (run_of file s).bytes (a - s.address)) else None) (run_holds file s a load)
    ∙ same_where (gives file a s) _ _ (run_byte file s a)
segment_by file s a false load = rw (not_load file s a load) refl

-- The byte of one segment.
segment_byte : (file : List ℕ) (s : Segment) (a : ℕ) → runs.byte_at (loaded_run file s) a ≡ (if gives file a s then Some (given file a s) else None)
segment_byte file s a = segment_by file s a (s.kind == pt_load) refl

found : {X Y : Type 0} (f : X → Y) (b : Bool) (x : X) (later : Option X) → option_or (if b then Some (f x) else None) (option_map f later) ≡ option_map f (cond b (Some x) later)
found f true x later = refl
found f false x later = refl

-- The byte of several segments is that of the first one that gives it.
pub segments_byte : (file : List ℕ) (segments : List Segment) (a : ℕ) → runs.byte_at (runs_of file segments) a ≡ option_map (given file a) (find (gives file a) segments)
unfolding runs_of runs.byte_at
segments_byte file [] a = refl
segments_byte file (s ∷ segments) a =
    byte_append (runs_of file segments) (loaded_run file s) a
    ∙ ap (λ o. option_or o (runs.byte_at (runs_of file segments) a)) (segment_byte file s a)
    ∙ ap (option_or (if gives file a s then Some (given file a s) else None)) (segments_byte file segments a)
    ∙ found (given file a) (gives file a s) s (find (gives file a) segments)

-- The byte at an address below 2^64.
pub same_byte : (m : Memory) (a : ℕ) → a < 2 ^ 64 → memory.byte_at m a ≡ runs.byte_at (core_runs m) a
unfolding memory.byte_at
same_byte m a below = rw (lt-ltb a (2 ^ 64) below) (sym (segments_byte m.file m.segments a))
