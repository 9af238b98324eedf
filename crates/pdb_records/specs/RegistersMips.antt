-- The registers of MIPS: a number, and a name.
use Rattle.std.specs.Prelude.{ℕ, List, [], ◌∷◌, Option, codes, nat_lt, if◌then◌else◌}
use Rattle.pdb_records.specs.NameRows.{name_in}

abbrev pub mips_rows_1 : List (ℕ × List ℕ)
mips_rows_1 =
    (10, codes "zero") ∷
    (11, codes "at") ∷
    (12, codes "v0") ∷
    (13, codes "v1") ∷
    (14, codes "a0") ∷
    (15, codes "a1") ∷
    (16, codes "a2") ∷
    (17, codes "a3") ∷
    (18, codes "t0") ∷
    (19, codes "t1") ∷
    (20, codes "t2") ∷
    (21, codes "t3") ∷
    (22, codes "t4") ∷
    (23, codes "t5") ∷
    (24, codes "t6") ∷
    (25, codes "t7") ∷
    (26, codes "s0") ∷
    (27, codes "s1") ∷
    (28, codes "s2") ∷
    (29, codes "s3") ∷
    (30, codes "s4") ∷
    (31, codes "s5") ∷
    (32, codes "s6") ∷
    (33, codes "s7") ∷
    (34, codes "t8") ∷
    (35, codes "t9") ∷
    (36, codes "k0") ∷
    (37, codes "k1") ∷
    (38, codes "gp") ∷
    (39, codes "sp") ∷
    []

abbrev pub mips_rows_2 : List (ℕ × List ℕ)
mips_rows_2 =
    (40, codes "s8") ∷
    (41, codes "ra") ∷
    (42, codes "lo") ∷
    (43, codes "hi") ∷
    (50, codes "fir") ∷
    (51, codes "psr") ∷
    (60, codes "f0") ∷
    (61, codes "f1") ∷
    (62, codes "f2") ∷
    (63, codes "f3") ∷
    (64, codes "f4") ∷
    (65, codes "f5") ∷
    (66, codes "f6") ∷
    (67, codes "f7") ∷
    (68, codes "f8") ∷
    (69, codes "f9") ∷
    (70, codes "f10") ∷
    (71, codes "f11") ∷
    (72, codes "f12") ∷
    (73, codes "f13") ∷
    (74, codes "f14") ∷
    (75, codes "f15") ∷
    (76, codes "f16") ∷
    (77, codes "f17") ∷
    (78, codes "f18") ∷
    (79, codes "f19") ∷
    (80, codes "f20") ∷
    (81, codes "f21") ∷
    (82, codes "f22") ∷
    (83, codes "f23") ∷
    []

abbrev pub mips_rows_3 : List (ℕ × List ℕ)
mips_rows_3 =
    (84, codes "f24") ∷
    (85, codes "f25") ∷
    (86, codes "f26") ∷
    (87, codes "f27") ∷
    (88, codes "f28") ∷
    (89, codes "f29") ∷
    (90, codes "f30") ∷
    (91, codes "f31") ∷
    (92, codes "fsr") ∷
    []

-- the name of a number
abbrev pub mips_name : ℕ → Option (List ℕ)
mips_name n =
    if nat_lt n 40 then name_in mips_rows_1 n
    else if nat_lt n 84 then name_in mips_rows_2 n
    else name_in mips_rows_3 n
