-- Two runs of the program that ask for the same, and how they end.
use Rattle.std.specs.Prelude.{◌≡◌, Option, None, Some}
use Rattle.sym_edges.specs.Outside.{Files}
use Rattle.dumpsyms_cmd.specs.Words.{Asked, dump, sample, stacks}
use Rattle.dumpsyms_cmd.specs.Observed.{StoreSeen, StoreStood}
use Rattle.dumpsyms_cmd.specs.Program.{Run, command}

-- what a command asks for, whatever the number of workers
abbrev pub by_one_worker : Asked → Asked
by_one_worker (dump source workers) = dump source 1
by_one_worker (sample units workers) = sample units 1
by_one_worker other = other

-- two commands ask for the same, by any numbers of workers
abbrev pub AskAlike : Option Asked → Option Asked → Type 0
AskAlike None None = Prim.Unit {0}
AskAlike None (Some d) = ⊥
AskAlike (Some c) None = ⊥
AskAlike (Some c) (Some d) = by_one_worker c ≡ by_one_worker d

-- if `stacks` is asked for, no call of the store failed: a symbol file that cannot be read would count as missing
abbrev pub IsCalm : Option Asked → StoreSeen → Type 0
IsCalm (Some (stacks core folder)) store = StoreStood store
IsCalm command store = Unit {0}

-- two runs ask for the same. Their stores have the same known files, and their sinks held the same
pub record RunAlike (one other : Run) : Type 0 where
  pub files : Files
  pub one_tells : one.store.files ≡ Some files
  pub other_tells : other.store.files ≡ Some files
  pub asked : AskAlike (command one) (command other)
  pub one_calm : IsCalm (command one) one.store
  pub other_calm : IsCalm (command other) other.store
  pub out : one.out.taken ≡ other.out.taken
  pub err : one.err.taken ≡ other.err.taken

-- both runs return the same status, and their sinks hold the same
pub record EndAlike (one other : Run) : Type 0 where
  pub status : one.status ≡ other.status
  pub out : one.out.taken_after ≡ other.out.taken_after
  pub err : one.err.taken_after ≡ other.err.taken_after
