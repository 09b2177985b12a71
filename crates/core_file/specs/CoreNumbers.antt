-- The numbers of ELF-64 core files, by their names in lower case (System V gABI, chapters 4 and 5; elf.h of Linux for the notes).
use Rattle.std.specs.Prelude.{ℕ, ◌^◌, List, codes}

-- e_type: a core file
abbrev pub et_core : ℕ
et_core = 4

-- e_phnum if the number of program headers is stored elsewhere
abbrev pub pn_xnum : ℕ
pn_xnum = 0xffff

-- p_type: a segment of notes
abbrev pub pt_note : ℕ
pt_note = 4

-- p_flags: the segment may be executed
abbrev pub pf_x : ℕ
pf_x = 1

-- the owner of a core's notes about its process
abbrev pub core_owner : List ℕ
core_owner = codes "CORE\0"

-- the types of these notes: the state of a thread, and the files that the process had mapped
abbrev pub nt_prstatus : ℕ
nt_prstatus = 1

abbrev pub nt_file : ℕ
nt_file = 0x46494c45

-- the size of a page in bytes
abbrev pub page_size : ℕ
page_size = 4096

-- all addresses are below this number
abbrev pub address_end : ℕ
address_end = 2 ^ 64
