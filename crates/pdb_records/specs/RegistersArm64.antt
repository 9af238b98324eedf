-- The registers of ARM64: a number, and a name.
use Rattle.std.specs.Prelude.{ℕ, List, [], ◌∷◌, Option, codes, nat_lt, if◌then◌else◌}
use Rattle.pdb_records.specs.NameRows.{name_in}

abbrev pub arm64_rows_1 : List (ℕ × List ℕ)
arm64_rows_1 =
    (10, codes "w0") ∷
    (11, codes "w1") ∷
    (12, codes "w2") ∷
    (13, codes "w3") ∷
    (14, codes "w4") ∷
    (15, codes "w5") ∷
    (16, codes "w6") ∷
    (17, codes "w7") ∷
    (18, codes "w8") ∷
    (19, codes "w9") ∷
    (20, codes "w10") ∷
    (21, codes "w11") ∷
    (22, codes "w12") ∷
    (23, codes "w13") ∷
    (24, codes "w14") ∷
    (25, codes "w15") ∷
    (26, codes "w16") ∷
    (27, codes "w17") ∷
    (28, codes "w18") ∷
    (29, codes "w19") ∷
    (30, codes "w20") ∷
    (31, codes "w21") ∷
    (32, codes "w22") ∷
    (33, codes "w23") ∷
    (34, codes "w24") ∷
    (35, codes "w25") ∷
    (36, codes "w26") ∷
    (37, codes "w27") ∷
    (38, codes "w28") ∷
    (39, codes "w29") ∷
    []

abbrev pub arm64_rows_2 : List (ℕ × List ℕ)
arm64_rows_2 =
    (40, codes "w30") ∷
    (41, codes "wzr") ∷
    (50, codes "x0") ∷
    (51, codes "x1") ∷
    (52, codes "x2") ∷
    (53, codes "x3") ∷
    (54, codes "x4") ∷
    (55, codes "x5") ∷
    (56, codes "x6") ∷
    (57, codes "x7") ∷
    (58, codes "x8") ∷
    (59, codes "x9") ∷
    (60, codes "x10") ∷
    (61, codes "x11") ∷
    (62, codes "x12") ∷
    (63, codes "x13") ∷
    (64, codes "x14") ∷
    (65, codes "x15") ∷
    (66, codes "x16") ∷
    (67, codes "x17") ∷
    (68, codes "x18") ∷
    (69, codes "x19") ∷
    (70, codes "x20") ∷
    (71, codes "x21") ∷
    (72, codes "x22") ∷
    (73, codes "x23") ∷
    (74, codes "x24") ∷
    (75, codes "x25") ∷
    (76, codes "x26") ∷
    (77, codes "x27") ∷
    []

abbrev pub arm64_rows_3 : List (ℕ × List ℕ)
arm64_rows_3 =
    (78, codes "x28") ∷
    (79, codes "fp") ∷
    (80, codes "lr") ∷
    (81, codes "sp") ∷
    (82, codes "zr") ∷
    (90, codes "nzcv") ∷
    (100, codes "s0") ∷
    (101, codes "s1") ∷
    (102, codes "s2") ∷
    (103, codes "s3") ∷
    (104, codes "s4") ∷
    (105, codes "s5") ∷
    (106, codes "s6") ∷
    (107, codes "s7") ∷
    (108, codes "s8") ∷
    (109, codes "s9") ∷
    (110, codes "s10") ∷
    (111, codes "s11") ∷
    (112, codes "s12") ∷
    (113, codes "s13") ∷
    (114, codes "s14") ∷
    (115, codes "s15") ∷
    (116, codes "s16") ∷
    (117, codes "s17") ∷
    (118, codes "s18") ∷
    (119, codes "s19") ∷
    (120, codes "s20") ∷
    (121, codes "s21") ∷
    (122, codes "s22") ∷
    (123, codes "s23") ∷
    []

abbrev pub arm64_rows_4 : List (ℕ × List ℕ)
arm64_rows_4 =
    (124, codes "s24") ∷
    (125, codes "s25") ∷
    (126, codes "s26") ∷
    (127, codes "s27") ∷
    (128, codes "s28") ∷
    (129, codes "s29") ∷
    (130, codes "s30") ∷
    (131, codes "s31") ∷
    (140, codes "d0") ∷
    (141, codes "d1") ∷
    (142, codes "d2") ∷
    (143, codes "d3") ∷
    (144, codes "d4") ∷
    (145, codes "d5") ∷
    (146, codes "d6") ∷
    (147, codes "d7") ∷
    (148, codes "d8") ∷
    (149, codes "d9") ∷
    (150, codes "d10") ∷
    (151, codes "d11") ∷
    (152, codes "d12") ∷
    (153, codes "d13") ∷
    (154, codes "d14") ∷
    (155, codes "d15") ∷
    (156, codes "d16") ∷
    (157, codes "d17") ∷
    (158, codes "d18") ∷
    (159, codes "d19") ∷
    (160, codes "d20") ∷
    (161, codes "d21") ∷
    []

abbrev pub arm64_rows_5 : List (ℕ × List ℕ)
arm64_rows_5 =
    (162, codes "d22") ∷
    (163, codes "d23") ∷
    (164, codes "d24") ∷
    (165, codes "d25") ∷
    (166, codes "d26") ∷
    (167, codes "d27") ∷
    (168, codes "d28") ∷
    (169, codes "d29") ∷
    (170, codes "d30") ∷
    (171, codes "d31") ∷
    (180, codes "q0") ∷
    (181, codes "q1") ∷
    (182, codes "q2") ∷
    (183, codes "q3") ∷
    (184, codes "q4") ∷
    (185, codes "q5") ∷
    (186, codes "q6") ∷
    (187, codes "q7") ∷
    (188, codes "q8") ∷
    (189, codes "q9") ∷
    (190, codes "q10") ∷
    (191, codes "q11") ∷
    (192, codes "q12") ∷
    (193, codes "q13") ∷
    (194, codes "q14") ∷
    (195, codes "q15") ∷
    (196, codes "q16") ∷
    (197, codes "q17") ∷
    (198, codes "q18") ∷
    (199, codes "q19") ∷
    []

abbrev pub arm64_rows_6 : List (ℕ × List ℕ)
arm64_rows_6 =
    (200, codes "q20") ∷
    (201, codes "q21") ∷
    (202, codes "q22") ∷
    (203, codes "q23") ∷
    (204, codes "q24") ∷
    (205, codes "q25") ∷
    (206, codes "q26") ∷
    (207, codes "q27") ∷
    (208, codes "q28") ∷
    (209, codes "q29") ∷
    (210, codes "q30") ∷
    (211, codes "q31") ∷
    (220, codes "fpsr") ∷
    (221, codes "fpcr") ∷
    (230, codes "b0") ∷
    (231, codes "b1") ∷
    (232, codes "b2") ∷
    (233, codes "b3") ∷
    (234, codes "b4") ∷
    (235, codes "b5") ∷
    (236, codes "b6") ∷
    (237, codes "b7") ∷
    (238, codes "b8") ∷
    (239, codes "b9") ∷
    (240, codes "b10") ∷
    (241, codes "b11") ∷
    (242, codes "b12") ∷
    (243, codes "b13") ∷
    (244, codes "b14") ∷
    (245, codes "b15") ∷
    []

abbrev pub arm64_rows_7 : List (ℕ × List ℕ)
arm64_rows_7 =
    (246, codes "b16") ∷
    (247, codes "b17") ∷
    (248, codes "b18") ∷
    (249, codes "b19") ∷
    (250, codes "b20") ∷
    (251, codes "b21") ∷
    (252, codes "b22") ∷
    (253, codes "b23") ∷
    (254, codes "b24") ∷
    (255, codes "b25") ∷
    (256, codes "b26") ∷
    (257, codes "b27") ∷
    (258, codes "b28") ∷
    (259, codes "b29") ∷
    (260, codes "b30") ∷
    (261, codes "b31") ∷
    (270, codes "h0") ∷
    (271, codes "h1") ∷
    (272, codes "h2") ∷
    (273, codes "h3") ∷
    (274, codes "h4") ∷
    (275, codes "h5") ∷
    (276, codes "h6") ∷
    (277, codes "h7") ∷
    (278, codes "h8") ∷
    (279, codes "h9") ∷
    (280, codes "h10") ∷
    (281, codes "h11") ∷
    (282, codes "h12") ∷
    (283, codes "h13") ∷
    []

abbrev pub arm64_rows_8 : List (ℕ × List ℕ)
arm64_rows_8 =
    (284, codes "h14") ∷
    (285, codes "h15") ∷
    (286, codes "h16") ∷
    (287, codes "h17") ∷
    (288, codes "h18") ∷
    (289, codes "h19") ∷
    (290, codes "h20") ∷
    (291, codes "h21") ∷
    (292, codes "h22") ∷
    (293, codes "h23") ∷
    (294, codes "h24") ∷
    (295, codes "h25") ∷
    (296, codes "h26") ∷
    (297, codes "h27") ∷
    (298, codes "h28") ∷
    (299, codes "h29") ∷
    (300, codes "h30") ∷
    (301, codes "h31") ∷
    []

-- the name of a number
abbrev pub arm64_name : ℕ → Option (List ℕ)
arm64_name n =
    if nat_lt n 40 then name_in arm64_rows_1 n
    else if nat_lt n 78 then name_in arm64_rows_2 n
    else if nat_lt n 124 then name_in arm64_rows_3 n
    else if nat_lt n 162 then name_in arm64_rows_4 n
    else if nat_lt n 200 then name_in arm64_rows_5 n
    else if nat_lt n 246 then name_in arm64_rows_6 n
    else if nat_lt n 284 then name_in arm64_rows_7 n
    else name_in arm64_rows_8 n
