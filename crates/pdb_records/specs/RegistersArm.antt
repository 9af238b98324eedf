-- The registers of ARM: a number, and a name.
use Rattle.std.specs.Prelude.{ℕ, List, [], ◌∷◌, Option, codes, nat_lt, if◌then◌else◌}
use Rattle.pdb_records.specs.NameRows.{name_in}

abbrev pub arm_rows_1 : List (ℕ × List ℕ)
arm_rows_1 =
    (10, codes "r0") ∷
    (11, codes "r1") ∷
    (12, codes "r2") ∷
    (13, codes "r3") ∷
    (14, codes "r4") ∷
    (15, codes "r5") ∷
    (16, codes "r6") ∷
    (17, codes "r7") ∷
    (18, codes "r8") ∷
    (19, codes "r9") ∷
    (20, codes "r10") ∷
    (21, codes "r11") ∷
    (22, codes "r12") ∷
    (23, codes "sp") ∷
    (24, codes "lr") ∷
    (25, codes "pc") ∷
    (26, codes "cpsr") ∷
    (40, codes "fpscr") ∷
    (41, codes "fpexc") ∷
    (50, codes "fs0") ∷
    (51, codes "fs1") ∷
    (52, codes "fs2") ∷
    (53, codes "fs3") ∷
    (54, codes "fs4") ∷
    (55, codes "fs5") ∷
    (56, codes "fs6") ∷
    (57, codes "fs7") ∷
    (58, codes "fs8") ∷
    (59, codes "fs9") ∷
    (60, codes "fs10") ∷
    []

abbrev pub arm_rows_2 : List (ℕ × List ℕ)
arm_rows_2 =
    (61, codes "fs11") ∷
    (62, codes "fs12") ∷
    (63, codes "fs13") ∷
    (64, codes "fs14") ∷
    (65, codes "fs15") ∷
    (66, codes "fs16") ∷
    (67, codes "fs17") ∷
    (68, codes "fs18") ∷
    (69, codes "fs19") ∷
    (70, codes "fs20") ∷
    (71, codes "fs21") ∷
    (72, codes "fs22") ∷
    (73, codes "fs23") ∷
    (74, codes "fs24") ∷
    (75, codes "fs25") ∷
    (76, codes "fs26") ∷
    (77, codes "fs27") ∷
    (78, codes "fs28") ∷
    (79, codes "fs29") ∷
    (80, codes "fs30") ∷
    (81, codes "fs31") ∷
    (200, codes "fs32") ∷
    (201, codes "fs33") ∷
    (202, codes "fs34") ∷
    (203, codes "fs35") ∷
    (204, codes "fs36") ∷
    (205, codes "fs37") ∷
    (206, codes "fs38") ∷
    (207, codes "fs39") ∷
    (208, codes "fs40") ∷
    []

abbrev pub arm_rows_3 : List (ℕ × List ℕ)
arm_rows_3 =
    (209, codes "fs41") ∷
    (210, codes "fs42") ∷
    (211, codes "fs43") ∷
    (212, codes "fs44") ∷
    (213, codes "fs45") ∷
    (214, codes "fs46") ∷
    (215, codes "fs47") ∷
    (216, codes "fs48") ∷
    (217, codes "fs49") ∷
    (218, codes "fs50") ∷
    (219, codes "fs51") ∷
    (220, codes "fs52") ∷
    (221, codes "fs53") ∷
    (222, codes "fs54") ∷
    (223, codes "fs55") ∷
    (224, codes "fs56") ∷
    (225, codes "fs57") ∷
    (226, codes "fs58") ∷
    (227, codes "fs59") ∷
    (228, codes "fs60") ∷
    (229, codes "fs61") ∷
    (230, codes "fs62") ∷
    (231, codes "fs63") ∷
    (300, codes "nd0") ∷
    (301, codes "nd1") ∷
    (302, codes "nd2") ∷
    (303, codes "nd3") ∷
    (304, codes "nd4") ∷
    (305, codes "nd5") ∷
    (306, codes "nd6") ∷
    []

abbrev pub arm_rows_4 : List (ℕ × List ℕ)
arm_rows_4 =
    (307, codes "nd7") ∷
    (308, codes "nd8") ∷
    (309, codes "nd9") ∷
    (310, codes "nd10") ∷
    (311, codes "nd11") ∷
    (312, codes "nd12") ∷
    (313, codes "nd13") ∷
    (314, codes "nd14") ∷
    (315, codes "nd15") ∷
    (316, codes "nd16") ∷
    (317, codes "nd17") ∷
    (318, codes "nd18") ∷
    (319, codes "nd19") ∷
    (320, codes "nd20") ∷
    (321, codes "nd21") ∷
    (322, codes "nd22") ∷
    (323, codes "nd23") ∷
    (324, codes "nd24") ∷
    (325, codes "nd25") ∷
    (326, codes "nd26") ∷
    (327, codes "nd27") ∷
    (328, codes "nd28") ∷
    (329, codes "nd29") ∷
    (330, codes "nd30") ∷
    (331, codes "nd31") ∷
    (400, codes "nq0") ∷
    (401, codes "nq1") ∷
    (402, codes "nq2") ∷
    (403, codes "nq3") ∷
    (404, codes "nq4") ∷
    []

abbrev pub arm_rows_5 : List (ℕ × List ℕ)
arm_rows_5 =
    (405, codes "nq5") ∷
    (406, codes "nq6") ∷
    (407, codes "nq7") ∷
    (408, codes "nq8") ∷
    (409, codes "nq9") ∷
    (410, codes "nq10") ∷
    (411, codes "nq11") ∷
    (412, codes "nq12") ∷
    (413, codes "nq13") ∷
    (414, codes "nq14") ∷
    (415, codes "nq15") ∷
    []

-- the name of a number
abbrev pub arm_name : ℕ → Option (List ℕ)
arm_name n =
    if nat_lt n 61 then name_in arm_rows_1 n
    else if nat_lt n 209 then name_in arm_rows_2 n
    else if nat_lt n 307 then name_in arm_rows_3 n
    else if nat_lt n 405 then name_in arm_rows_4 n
    else name_in arm_rows_5 n
