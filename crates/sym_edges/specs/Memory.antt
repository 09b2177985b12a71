use Rattle.std.specs.Prelude.{ℕ, ◌+◌, ◌-◌, ◌^◌, ◌==◌, ◌||◌, ◌&&◌, Bool, List, [], ◌∷◌, ◌++◌, Option, Some, None, length, take, drop, position, min, nat_lt, nat_le, unwrap_or, slice_get, if◌then◌else◌, is_none}
use Rattle.std.specs.List.{list_any}
use Rattle.std.specs.Option.{option_map}
use Rattle.std.specs.Str.{bytes_eq}
use Rattle.sym_edges.specs.Outside.{Files}
use Rattle.sym_edges.specs.declared.name.NamedFile.{NamedFile}

-- the number of the next call, counted from 1; at the greatest u64 it no longer rises
abbrev pub next_call : ℕ → ℕ
next_call calls = min (calls + 1) (2 ^ 64 - 1)

-- whether the call with this number is to fail
unfoldable pub is_failing : List ℕ → ℕ → Bool
is_failing fail call = list_any (λ n. n == call) fail

-- the place of the first file with this name
unfoldable pub place_of : List NamedFile → List ℕ → Option ℕ
place_of files name = position (λ f. bytes_eq f.name name) files

-- the bytes of the file at a place
unfoldable pub bytes_at : List NamedFile → ℕ → List ℕ
bytes_at files i = unwrap_or (option_map (λ f. f.bytes) (slice_get files i)) []

-- the files as a map from names to bytes; if several have the same name, the first counts
unfoldable pub files_of : List NamedFile → Files
files_of files name = option_map (bytes_at files) (place_of files name)

-- the bytes that are left of the open file; none before the first opening
unfoldable pub left_of : List NamedFile → Option ℕ → ℕ → List ℕ
left_of files None place = []
left_of files (Some i) place = drop place (bytes_at files i)

-- a store in memory: its files, the most bytes that a read moves, and which calls fail; then the count of calls, the names asked for, what is left,
-- and the count of faults
pub record MemFiles : Type 0 where
  pub files : List NamedFile
  pub step : ℕ
  pub fail : List ℕ
  pub calls : ℕ
  pub asked : List (List ℕ)
  pub left : List ℕ
  pub faults : ℕ

-- the store after an opening of `name`, given the index of its file; without an index the opening
-- has failed
abbrev pub opened_at : MemFiles → List ℕ → Option ℕ → MemFiles
opened_at m name None = record m { calls = next_call m.calls; asked = m.asked ++ name ∷ []; faults = next_call m.faults }
opened_at m name (Some i) = record m { calls = next_call m.calls; asked = m.asked ++ name ∷ []; left = bytes_at m.files i }

-- whether the next opening fails
unfoldable pub opening_fails : MemFiles → List ℕ → Bool
opening_fails m name = is_failing m.fail (next_call m.calls) || is_none (place_of m.files name)

-- the store after an opening
unfoldable pub after_opening : MemFiles → List ℕ → MemFiles
after_opening m name = opened_at m name (if is_failing m.fail (next_call m.calls) then None else place_of m.files name)

-- how many bytes the next read into a buffer of `room` bytes moves
unfoldable pub read_count : MemFiles → ℕ → ℕ
read_count m room = min m.step (min room (length m.left))

-- the store after a read that fails, and after a read that succeeds
unfoldable pub after_failed_read : MemFiles → MemFiles
after_failed_read m = record m { calls = next_call m.calls; faults = next_call m.faults }

unfoldable pub after_read : MemFiles → ℕ → MemFiles
after_read m room = record m { calls = next_call m.calls; left = drop (read_count m room) m.left }

-- a sink in memory: the bytes that it holds, its room, the most bytes that a write takes, and which calls fail; then the counts of calls and of
-- faults
pub record MemBytes : Type 0 where
  pub held : List ℕ
  pub room : ℕ
  pub step : ℕ
  pub fail : List ℕ
  pub calls : ℕ
  pub faults : ℕ

-- whether the next write fails: its piece is not empty, and either its number is to fail or the room is used up
unfoldable pub write_fails : MemBytes → List ℕ → Bool
write_fails m piece = nat_lt 0 (length piece) && (is_failing m.fail (next_call m.calls) || nat_le m.room (length m.held))

-- how many bytes the next write takes
unfoldable pub write_count : MemBytes → List ℕ → ℕ
write_count m piece = min m.step (min (length piece) (m.room - length m.held))

-- the sink after a write that fails, and after a write that succeeds
unfoldable pub after_failed_write : MemBytes → MemBytes
after_failed_write m = record m { calls = next_call m.calls; faults = next_call m.faults }

unfoldable pub after_write : MemBytes → List ℕ → MemBytes
after_write m piece = record m { calls = next_call m.calls; held = m.held ++ take (write_count m piece) piece }
