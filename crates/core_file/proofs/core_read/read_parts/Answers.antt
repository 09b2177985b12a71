use Rattle.std.proofs.Common.{◌≡◌, ◌<◌, ℕ, false, None, length, refl, sym, ◌∙◌, ap, arith}
use Rattle.std.specs.Prelude.{position, ◌==◌}
use Rattle.std.proofs.lemmas.Bool.{eqb-true}
use Rattle.std.proofs.lemmas.Bool.Decides.{nat_tests}
use Rattle.core_file.specs.Segments.{segments, is_bad}
use Rattle.core_file.specs.CoreNotes.{has_bad_note, all_notes}
use Rattle.core_file.specs.Threads.{threads_in}
use Rattle.core_file.specs.internal.Gathering.{so_far}
use Rattle.core_file.proofs.CoreLemmas.{header_stop, fault_segment, fault_note, fault_thread, no_fault, found_threads, found_files, memory_is}
use Rattle.core_file.proofs.core_read.read_parts.Goals as goal

some_eqb : (n : ℕ) → (n == 0) ≡ false → 0 < n
some_eqb n other = grind (arith, nat_tests)

pub returns-in-Err-clause-read : goal.returns-in-Err-clause-read
returns-in-Err-clause-read c = header_stop c.args.bytes.now c.in-Err.stop _ _ c.in-Err.ensures.read

pub overflow_cast-result : goal.overflow_cast-result
overflow_cast-result c = omega (arith, c.in-Ok.ensures.few, c.in-Some.ensures.within, ap length c.as_slice.ensures.value)

pub returns-in-Some-clause-read : goal.returns-in-Some-clause-read
returns-in-Some-clause-read c =
    fault_segment c.args.bytes.now c.in-Some.index c.in-Ok.ensures.read.0
    (sym (c.in-Some.ensures.first ∙ ap (position (is_bad c.args.bytes.now)) (c.as_slice.ensures.value ∙ c.in-Ok.ensures.read.1)))

pub overflow_cast-result-in-Some-2 : goal.overflow_cast-result-in-Some-2
overflow_cast-result-in-Some-2 c =
    let within : c.in-Some-2.index < length c.as_slice-2.result.now = rw c.in-Some-2.is at c.in_ok-index.ensures.within in
    omega (arith, c.in-Ok.ensures.few, ap length c.as_slice-2.ensures.value)

pub returns-in-Some-2-clause-read : goal.returns-in-Some-2-clause-read
returns-in-Some-2-clause-read c =
    let fine : position (is_bad c.args.bytes.now) (segments c.args.bytes.now) ≡ None =
    sym (c.in_default.ensures.first ∙ ap (position (is_bad c.args.bytes.now)) (c.as_slice.ensures.value ∙ c.in-Ok.ensures.read.1)) in
    fault_note c.args.bytes.now c.in-Some-2.index c.in-Ok.ensures.read.0 fine
    (sym (sym c.in-Some-2.is ∙ c.in_ok-index.ensures.bad ∙ ap (position (has_bad_note c.args.bytes.now)) (c.as_slice-2.ensures.value ∙ c.in-Ok.ensures.read.1)))

pub returns-then-is_empty-clause-read : goal.returns-then-is_empty-clause-read
returns-then-is_empty-clause-read c =
    let same : c.as_slice-2.result.now ≡ segments c.args.bytes.now = c.as_slice-2.ensures.value ∙ c.in-Ok.ensures.read.1 in
    let fine : position (is_bad c.args.bytes.now) (segments c.args.bytes.now) ≡ None =
    sym (c.in_default.ensures.first ∙ ap (position (is_bad c.args.bytes.now)) (c.as_slice.ensures.value ∙ c.in-Ok.ensures.read.1)) in
    let whole : position (has_bad_note c.args.bytes.now) (segments c.args.bytes.now) ≡ None =
    sym (sym c.in_default-2.is ∙ c.in_ok-index.ensures.bad ∙ ap (position (has_bad_note c.args.bytes.now)) same) in
    let threads : c.gather_all.new.found.threads.items ≡ threads_in c.args.limit (all_notes c.args.bytes.now (segments c.args.bytes.now)) =
    found_threads c.args.limit c.args.bytes.now c.as_slice-2.result.now (record { threads = c.new.result.items; files = None }) (so_far c.gather_all.new.found)
    same c.new.ensures.items (c.in_ok-index.ensures.gathered c.in_default-2.is) in
    fault_thread c.args.limit c.args.bytes.now (length c.gather_all.new.found.threads.items) c.in-Ok.ensures.read.0 fine whole c.requires
    (ap length threads) (sym (ap length c.as_slice-3.ensures.value) ∙ eqb-true (length c.as_slice-3.result.now) 0 (sym c.is_empty.ensures ∙ c.if-is_empty.true))

pub returns-clause-read : goal.returns-clause-read
returns-clause-read c =
    let same : c.as_slice-2.result.now ≡ segments c.args.bytes.now = c.as_slice-2.ensures.value ∙ c.in-Ok.ensures.read.1 in
    let fine : position (is_bad c.args.bytes.now) (segments c.args.bytes.now) ≡ None =
    sym (c.in_default.ensures.first ∙ ap (position (is_bad c.args.bytes.now)) (c.as_slice.ensures.value ∙ c.in-Ok.ensures.read.1)) in
    let whole : position (has_bad_note c.args.bytes.now) (segments c.args.bytes.now) ≡ None =
    sym (sym c.in_default-2.is ∙ c.in_ok-index.ensures.bad ∙ ap (position (has_bad_note c.args.bytes.now)) same) in
    let threads : c.gather_all.new.found.threads.items ≡ threads_in c.args.limit (all_notes c.args.bytes.now (segments c.args.bytes.now)) =
    found_threads c.args.limit c.args.bytes.now c.as_slice-2.result.now (record { threads = c.new.result.items; files = None }) (so_far c.gather_all.new.found)
    same c.new.ensures.items (c.in_ok-index.ensures.gathered c.in_default-2.is) in (
      no_fault c.args.limit c.args.bytes.now (length c.gather_all.new.found.threads.items) c.in-Ok.ensures.read.0 fine whole c.requires (ap length threads) (rw (ap length c.as_slice-3.ensures.value) at (some_eqb (length c.as_slice-3.result.now) (sym c.is_empty.ensures ∙ c.if-is_empty.false))),
      memory_is c.args.bytes.now c.in_ok-memory.memory c.in-Ok.segments.items c.in_ok-memory.ensures c.in-Ok.ensures.read.1,
      threads,
      found_files c.args.limit c.args.bytes.now c.as_slice-2.result.now (record { threads = c.new.result.items; files = None }) (so_far c.gather_all.new.found)
          same refl (c.in_ok-index.ensures.gathered c.in_default-2.is),
    )
