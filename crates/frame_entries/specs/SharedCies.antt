-- What entries of one section share if they have the same CIE.
use Rattle.std.specs.Prelude.{◌≡◌, ℕ, ◌<◌, List, length, slice_index_or}
use Rattle.frame_entries.specs.FdeFields.{FdeFields}
use Rattle.frame_entries.specs.declared.description.Body.TheVariants.{Good}
use Rattle.frame_entries.specs.declared.description.Entry.{Entry}

-- two entries have the same fields of a CIE: its factors, the encoding of pointers and the initial instructions
pub record HaveOneCie (e f : FdeFields) : Type 0 where
  pub code_align : e.code_align ≡ f.code_align
  pub data_align : e.data_align ≡ f.data_align
  pub encoding : e.encoding ≡ f.encoding
  pub initial_instructions : e.initial_instructions ≡ f.initial_instructions

-- entries whose CIEs are at the same place have the same fields of a CIE
pub record ShareCies (entries : List Entry) : Type 0 where
  pub one : (i j : ℕ) (d : Entry) (e f : FdeFields) → i < length entries → j < length entries →
      (slice_index_or entries i d).body ≡ Good e → (slice_index_or entries j d).body ≡ Good f → e.cie ≡ f.cie → HaveOneCie e f
