use Rattle.std.proofs.Common.{◌≡◌, ◌+◌, ◌*◌, ◌-◌, ◌≤◌, length, min, refl, ◌∙◌, arith}
use Rattle.core_file.proofs.FileLemmas.{first_there, count_there, files_begin, files_more, inside_push}
use Rattle.core_file.proofs.files.read_files.Goals as goal

pub read_u64-count-requires : goal.read_u64-count-requires
read_u64-count-requires c = omega (arith, first_there c.args.note.now c.requires)

pub overflow_mul-text : goal.overflow_mul-text
overflow_mul-text c =
    let n : 16 + 24 * c.read_u64-count.result ≤ length c.args.note.now = count_there c.args.note.now c.read_u64-count.result c.requires c.read_u64-count.ensures in
    omega arith

pub overflow_add-text : goal.overflow_add-text
overflow_add-text c =
    let n : 16 + 24 * c.read_u64-count.result ≤ length c.args.note.now = count_there c.args.note.now c.read_u64-count.result c.requires c.read_u64-count.ensures in
    omega arith

pub files-init : goal.files-init
files-init c =
    let n : 16 + 24 * c.read_u64-count.result ≤ length c.args.note.now = count_there c.args.note.now c.read_u64-count.result c.requires c.read_u64-count.ensures in
    record {
      within = n;
      numbers = n;
      len = c.len-len.ensures;
      files = rw c.new-files.ensures.items (files_begin c.args.note.now c.read_u64-count.result c.read_u64-count.ensures);
      inside = rw c.new-files.ensures.items tt;
    }

pub files-preserved : goal.files-preserved
files-preserved c =
    let e : 16 + 24 * (c.files.k + 1) ≡ 16 + 24 * c.files.k + 24 = omega arith in
    let next : c.min-text.result ≡ min (length c.args.note.now) (c.files.text + c.text_size-size.result + 1) = omega arith in
    record {
      within = omega arith;
      numbers = c.files.invariant.numbers;
      len = c.len-len.ensures;
      files = rw (c.in_ok-push.ensures.items, e)
          (files_more c.args.note.now c.files.files.items
          (record { start = c.read_u64.result; end = c.read_u64-in-files.result; offset = c.read_u64-in-files-2.result; text = c.files.text; size = c.text_size-size.result })
          (c.read_u64-count.result - c.files.k) (c.read_u64-count.result - (c.files.k + 1)) (16 + 24 * c.files.k) c.files.text c.min-text.result
          (omega arith) c.files.invariant.within c.read_u64.ensures c.read_u64-in-files.ensures c.read_u64-in-files-2.ensures refl c.text_size-size.ensures.size next
          ∙ c.files.invariant.files);
      inside = rw c.in_ok-push.ensures.items (inside_push (length c.args.note.now) c.files.files.items _ c.files.invariant.inside c.text_size-size.ensures.within);
    }
