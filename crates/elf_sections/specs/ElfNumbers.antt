-- The numbers of ELF-64 files, under their standard names in lower case: of the System V gABI, chapters 4 and 5; of its AMD64 supplement for the
-- machine; and of the GNU extensions where a comment names them.
use Rattle.std.specs.Prelude.{ℕ}

-- two places in e_ident, each with the value that is accepted there: 64-bit objects, and numbers
-- with the lowest byte first
abbrev pub ei_class : ℕ
ei_class = 4

abbrev pub elfclass64 : ℕ
elfclass64 = 2

abbrev pub ei_data : ℕ
ei_data = 5

abbrev pub elfdata2lsb : ℕ
elfdata2lsb = 1

-- e_type: an executable file, a shared object file
abbrev pub et_exec : ℕ
et_exec = 2

abbrev pub et_dyn : ℕ
et_dyn = 3

-- e_machine (AMD64 ABI, 4.1.1)
abbrev pub em_x86_64 : ℕ
em_x86_64 = 62

-- special section indices: the undefined one, and the first reserved one
abbrev pub shn_undef : ℕ
shn_undef = 0

abbrev pub shn_loreserve : ℕ
shn_loreserve = 0xff00

-- sh_type
abbrev pub sht_null : ℕ
sht_null = 0

abbrev pub sht_symtab : ℕ
sht_symtab = 2

abbrev pub sht_strtab : ℕ
sht_strtab = 3

abbrev pub sht_note : ℕ
sht_note = 7

abbrev pub sht_nobits : ℕ
sht_nobits = 8

abbrev pub sht_dynsym : ℕ
sht_dynsym = 11

-- sh_flags: occupies memory during execution, contains machine instructions, is compressed
abbrev pub shf_alloc : ℕ
shf_alloc = 0x2

abbrev pub shf_execinstr : ℕ
shf_execinstr = 0x4

abbrev pub shf_compressed : ℕ
shf_compressed = 0x800

-- p_type: a segment that is loaded
abbrev pub pt_load : ℕ
pt_load = 1

-- the type of a note with a build id, whose owner is GNU (GNU extensions)
abbrev pub nt_gnu_build_id : ℕ
nt_gnu_build_id = 3

-- symbol types, in the low four bits of st_info: a function, and a function whose address is found by a call (GNU extensions)
abbrev pub stt_func : ℕ
stt_func = 2

abbrev pub stt_gnu_ifunc : ℕ
stt_gnu_ifunc = 10

-- the sizes in bytes of an Elf64_Ehdr, an Elf64_Shdr, an Elf64_Phdr and an Elf64_Sym
abbrev pub file_header_size : ℕ
file_header_size = 64

abbrev pub section_header_size : ℕ
section_header_size = 64

abbrev pub program_header_size : ℕ
program_header_size = 56

abbrev pub symbol_size : ℕ
symbol_size = 24
