use Rattle.std.proofs.Common.{◌≡◌, Some, length, take, drop, min, sym, ◌∙◌, ap}
use Rattle.sym_edges.specs.Memory.{MemFiles}
use Rattle.sym_edges.proofs.MemoryLemmas.{left_more, reads_front}
use Rattle.sym_edges.proofs.mem_store.MemStoreStore.read.Goals as goal

pub returns-clause-taken : goal.returns-clause-taken
returns-clause-taken c =
    let inside = c.self.inside in
    let n = c.min-count.result in
    let left : c.open_bytes-left.result.now ≡ c.args.self.now.left = c.open_bytes-left.ensures.left ∙ ap (λ (m : MemFiles). m.left) c.self.view_is in
    let count : n ≡ min inside.step (min (length c.args.buf.now) (length c.args.self.now.left)) =
    c.min-count.ensures ∙ ap (min inside.step) (c.min.ensures ∙ ap (λ l. min (length c.args.buf.now) (length l)) left) in
    reads_front c.args.self.now.left c.args.buf.now c.copy_from_slice.new.self n inside.step _ c.self.invariant count
    (c.copy_from_slice.ensures.after ∙ ap (take n) left)
    (ap Some (left_more inside.files inside.chosen inside.place n ∙ ap (drop n) (sym c.open_bytes-left.ensures.left ∙ left)))
