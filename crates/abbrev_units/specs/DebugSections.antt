use Rattle.std.specs.Prelude.{ℕ, ◌+◌, ◌^◌, nat_lt, Bool, if◌then◌else◌, List, Option}

-- the bytes of the sections of debugging information, by section name; a missing section has no bytes. Names and entries that several files share may
-- be in a supplementary file (DWARF 5, 7.3.6). `sup_strs` is the `.debug_str` of that file, if it was read too. `is_sup` says that these sections are
-- those of the supplementary file itself
pub record DebugSections : Type 0 where
  pub info : List ℕ
  pub abbrevs : List ℕ
  pub line : List ℕ
  pub line_str : List ℕ
  pub strs : List ℕ
  pub str_offsets : List ℕ
  pub addr : List ℕ
  pub ranges : List ℕ
  pub rnglists : List ℕ
  pub sup_strs : Option (List ℕ)
  pub is_sup : Bool

-- the first place of `.debug_info` in a file or in its supplementary file. A file has at most 2^29
-- bytes, so the places of the supplementary file begin at 2^29, and a place says in which of the
-- two files it is
abbrev pub first_place : Bool → ℕ
first_place sup = if sup then 2 ^ 29 else 0

-- the place to which a reference into one of the two files leads; if the reference leaves its file, 2^31, which is not in either file
unfoldable pub place_in : Bool → ℕ → ℕ
place_in sup n = if nat_lt n (2 ^ 29) then first_place sup + n else 2 ^ 31
