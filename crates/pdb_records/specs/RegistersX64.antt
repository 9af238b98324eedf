-- The registers of x64: a number, and a name.
use Rattle.std.specs.Prelude.{ℕ, List, [], ◌∷◌, Option, codes, nat_lt, if◌then◌else◌}
use Rattle.pdb_records.specs.NameRows.{name_in}

abbrev pub x64_rows_1 : List (ℕ × List ℕ)
x64_rows_1 =
    (1, codes "al") ∷
    (2, codes "cl") ∷
    (3, codes "dl") ∷
    (4, codes "bl") ∷
    (5, codes "ah") ∷
    (6, codes "ch") ∷
    (7, codes "dh") ∷
    (8, codes "bh") ∷
    (9, codes "ax") ∷
    (10, codes "cx") ∷
    (11, codes "dx") ∷
    (12, codes "bx") ∷
    (13, codes "sp") ∷
    (14, codes "bp") ∷
    (15, codes "si") ∷
    (16, codes "di") ∷
    (17, codes "eax") ∷
    (18, codes "ecx") ∷
    (19, codes "edx") ∷
    (20, codes "ebx") ∷
    (21, codes "esp") ∷
    (22, codes "ebp") ∷
    (23, codes "esi") ∷
    (24, codes "edi") ∷
    (25, codes "es") ∷
    (26, codes "cs") ∷
    (27, codes "ss") ∷
    (28, codes "ds") ∷
    (29, codes "fs") ∷
    (30, codes "gs") ∷
    []

abbrev pub x64_rows_2 : List (ℕ × List ℕ)
x64_rows_2 =
    (31, codes "ip") ∷
    (32, codes "flags") ∷
    (33, codes "rip") ∷
    (34, codes "eflags") ∷
    (40, codes "temp") ∷
    (41, codes "temph") ∷
    (42, codes "quote") ∷
    (43, codes "pcdr3") ∷
    (44, codes "pcdr4") ∷
    (45, codes "pcdr5") ∷
    (46, codes "pcdr6") ∷
    (47, codes "pcdr7") ∷
    (80, codes "cr0") ∷
    (81, codes "cr1") ∷
    (82, codes "cr2") ∷
    (83, codes "cr3") ∷
    (84, codes "cr4") ∷
    (90, codes "dr0") ∷
    (91, codes "dr1") ∷
    (92, codes "dr2") ∷
    (93, codes "dr3") ∷
    (94, codes "dr4") ∷
    (95, codes "dr5") ∷
    (96, codes "dr6") ∷
    (97, codes "dr7") ∷
    (110, codes "gdtr") ∷
    (111, codes "gdtl") ∷
    (112, codes "idtr") ∷
    (113, codes "idtl") ∷
    (114, codes "ldtr") ∷
    []

abbrev pub x64_rows_3 : List (ℕ × List ℕ)
x64_rows_3 =
    (115, codes "tr") ∷
    (116, codes "pseudo1") ∷
    (117, codes "pseudo2") ∷
    (118, codes "pseudo3") ∷
    (119, codes "pseudo4") ∷
    (120, codes "pseudo5") ∷
    (121, codes "pseudo6") ∷
    (122, codes "pseudo7") ∷
    (123, codes "pseudo8") ∷
    (124, codes "pseudo9") ∷
    (128, codes "st0") ∷
    (129, codes "st1") ∷
    (130, codes "st2") ∷
    (131, codes "st3") ∷
    (132, codes "st4") ∷
    (133, codes "st5") ∷
    (134, codes "st6") ∷
    (135, codes "st7") ∷
    (136, codes "ctrl") ∷
    (137, codes "stat") ∷
    (138, codes "tag") ∷
    (139, codes "fpip") ∷
    (140, codes "fpcs") ∷
    (141, codes "fpdo") ∷
    (142, codes "fpds") ∷
    (143, codes "isem") ∷
    (144, codes "fpeip") ∷
    (145, codes "fpedo") ∷
    (146, codes "mm0") ∷
    (147, codes "mm1") ∷
    []

abbrev pub x64_rows_4 : List (ℕ × List ℕ)
x64_rows_4 =
    (148, codes "mm2") ∷
    (149, codes "mm3") ∷
    (150, codes "mm4") ∷
    (151, codes "mm5") ∷
    (152, codes "mm6") ∷
    (153, codes "mm7") ∷
    (154, codes "xmm0") ∷
    (155, codes "xmm1") ∷
    (156, codes "xmm2") ∷
    (157, codes "xmm3") ∷
    (158, codes "xmm4") ∷
    (159, codes "xmm5") ∷
    (160, codes "xmm6") ∷
    (161, codes "xmm7") ∷
    (162, codes "xmm0_0") ∷
    (163, codes "xmm0_1") ∷
    (164, codes "xmm0_2") ∷
    (165, codes "xmm0_3") ∷
    (166, codes "xmm1_0") ∷
    (167, codes "xmm1_1") ∷
    (168, codes "xmm1_2") ∷
    (169, codes "xmm1_3") ∷
    (170, codes "xmm2_0") ∷
    (171, codes "xmm2_1") ∷
    (172, codes "xmm2_2") ∷
    (173, codes "xmm2_3") ∷
    (174, codes "xmm3_0") ∷
    (175, codes "xmm3_1") ∷
    (176, codes "xmm3_2") ∷
    (177, codes "xmm3_3") ∷
    []

abbrev pub x64_rows_5 : List (ℕ × List ℕ)
x64_rows_5 =
    (178, codes "xmm4_0") ∷
    (179, codes "xmm4_1") ∷
    (180, codes "xmm4_2") ∷
    (181, codes "xmm4_3") ∷
    (182, codes "xmm5_0") ∷
    (183, codes "xmm5_1") ∷
    (184, codes "xmm5_2") ∷
    (185, codes "xmm5_3") ∷
    (186, codes "xmm6_0") ∷
    (187, codes "xmm6_1") ∷
    (188, codes "xmm6_2") ∷
    (189, codes "xmm6_3") ∷
    (190, codes "xmm7_0") ∷
    (191, codes "xmm7_1") ∷
    (192, codes "xmm7_2") ∷
    (193, codes "xmm7_3") ∷
    (194, codes "xmm0l") ∷
    (195, codes "xmm1l") ∷
    (196, codes "xmm2l") ∷
    (197, codes "xmm3l") ∷
    (198, codes "xmm4l") ∷
    (199, codes "xmm5l") ∷
    (200, codes "xmm6l") ∷
    (201, codes "xmm7l") ∷
    (202, codes "xmm0h") ∷
    (203, codes "xmm1h") ∷
    (204, codes "xmm2h") ∷
    (205, codes "xmm3h") ∷
    (206, codes "xmm4h") ∷
    (207, codes "xmm5h") ∷
    []

abbrev pub x64_rows_6 : List (ℕ × List ℕ)
x64_rows_6 =
    (208, codes "xmm6h") ∷
    (209, codes "xmm7h") ∷
    (211, codes "mxcsr") ∷
    (212, codes "edxeax") ∷
    (220, codes "emm0l") ∷
    (221, codes "emm1l") ∷
    (222, codes "emm2l") ∷
    (223, codes "emm3l") ∷
    (224, codes "emm4l") ∷
    (225, codes "emm5l") ∷
    (226, codes "emm6l") ∷
    (227, codes "emm7l") ∷
    (228, codes "emm0h") ∷
    (229, codes "emm1h") ∷
    (230, codes "emm2h") ∷
    (231, codes "emm3h") ∷
    (232, codes "emm4h") ∷
    (233, codes "emm5h") ∷
    (234, codes "emm6h") ∷
    (235, codes "emm7h") ∷
    (236, codes "mm00") ∷
    (237, codes "mm01") ∷
    (238, codes "mm10") ∷
    (239, codes "mm11") ∷
    (240, codes "mm20") ∷
    (241, codes "mm21") ∷
    (242, codes "mm30") ∷
    (243, codes "mm31") ∷
    (244, codes "mm40") ∷
    (245, codes "mm41") ∷
    []

abbrev pub x64_rows_7 : List (ℕ × List ℕ)
x64_rows_7 =
    (246, codes "mm50") ∷
    (247, codes "mm51") ∷
    (248, codes "mm60") ∷
    (249, codes "mm61") ∷
    (250, codes "mm70") ∷
    (251, codes "mm71") ∷
    (252, codes "xmm8") ∷
    (253, codes "xmm9") ∷
    (254, codes "xmm10") ∷
    (255, codes "xmm11") ∷
    (256, codes "xmm12") ∷
    (257, codes "xmm13") ∷
    (258, codes "xmm14") ∷
    (259, codes "xmm15") ∷
    (260, codes "xmm8_0") ∷
    (261, codes "xmm8_1") ∷
    (262, codes "xmm8_2") ∷
    (263, codes "xmm8_3") ∷
    (264, codes "xmm9_0") ∷
    (265, codes "xmm9_1") ∷
    (266, codes "xmm9_2") ∷
    (267, codes "xmm9_3") ∷
    (268, codes "xmm10_0") ∷
    (269, codes "xmm10_1") ∷
    (270, codes "xmm10_2") ∷
    (271, codes "xmm10_3") ∷
    (272, codes "xmm11_0") ∷
    (273, codes "xmm11_1") ∷
    (274, codes "xmm11_2") ∷
    (275, codes "xmm11_3") ∷
    []

abbrev pub x64_rows_8 : List (ℕ × List ℕ)
x64_rows_8 =
    (276, codes "xmm12_0") ∷
    (277, codes "xmm12_1") ∷
    (278, codes "xmm12_2") ∷
    (279, codes "xmm12_3") ∷
    (280, codes "xmm13_0") ∷
    (281, codes "xmm13_1") ∷
    (282, codes "xmm13_2") ∷
    (283, codes "xmm13_3") ∷
    (284, codes "xmm14_0") ∷
    (285, codes "xmm14_1") ∷
    (286, codes "xmm14_2") ∷
    (287, codes "xmm14_3") ∷
    (288, codes "xmm15_0") ∷
    (289, codes "xmm15_1") ∷
    (290, codes "xmm15_2") ∷
    (291, codes "xmm15_3") ∷
    (292, codes "xmm8l") ∷
    (293, codes "xmm9l") ∷
    (294, codes "xmm10l") ∷
    (295, codes "xmm11l") ∷
    (296, codes "xmm12l") ∷
    (297, codes "xmm13l") ∷
    (298, codes "xmm14l") ∷
    (299, codes "xmm15l") ∷
    (300, codes "xmm8h") ∷
    (301, codes "xmm9h") ∷
    (302, codes "xmm10h") ∷
    (303, codes "xmm11h") ∷
    (304, codes "xmm12h") ∷
    (305, codes "xmm13h") ∷
    []

abbrev pub x64_rows_9 : List (ℕ × List ℕ)
x64_rows_9 =
    (306, codes "xmm14h") ∷
    (307, codes "xmm15h") ∷
    (324, codes "sil") ∷
    (325, codes "dil") ∷
    (326, codes "bpl") ∷
    (327, codes "spl") ∷
    (328, codes "rax") ∷
    (329, codes "rbx") ∷
    (330, codes "rcx") ∷
    (331, codes "rdx") ∷
    (332, codes "rsi") ∷
    (333, codes "rdi") ∷
    (334, codes "rbp") ∷
    (335, codes "rsp") ∷
    (336, codes "r8") ∷
    (337, codes "r9") ∷
    (338, codes "r10") ∷
    (339, codes "r11") ∷
    (340, codes "r12") ∷
    (341, codes "r13") ∷
    (342, codes "r14") ∷
    (343, codes "r15") ∷
    (344, codes "r8b") ∷
    (345, codes "r9b") ∷
    (346, codes "r10b") ∷
    (347, codes "r11b") ∷
    (348, codes "r12b") ∷
    (349, codes "r13b") ∷
    (350, codes "r14b") ∷
    (351, codes "r15b") ∷
    []

abbrev pub x64_rows_10 : List (ℕ × List ℕ)
x64_rows_10 =
    (352, codes "r8w") ∷
    (353, codes "r9w") ∷
    (354, codes "r10w") ∷
    (355, codes "r11w") ∷
    (356, codes "r12w") ∷
    (357, codes "r13w") ∷
    (358, codes "r14w") ∷
    (359, codes "r15w") ∷
    (360, codes "r8d") ∷
    (361, codes "r9d") ∷
    (362, codes "r10d") ∷
    (363, codes "r11d") ∷
    (364, codes "r12d") ∷
    (365, codes "r13d") ∷
    (366, codes "r14d") ∷
    (367, codes "r15d") ∷
    (368, codes "ymm0") ∷
    (369, codes "ymm1") ∷
    (370, codes "ymm2") ∷
    (371, codes "ymm3") ∷
    (372, codes "ymm4") ∷
    (373, codes "ymm5") ∷
    (374, codes "ymm6") ∷
    (375, codes "ymm7") ∷
    (376, codes "ymm8") ∷
    (377, codes "ymm9") ∷
    (378, codes "ymm10") ∷
    (379, codes "ymm11") ∷
    (380, codes "ymm12") ∷
    (381, codes "ymm13") ∷
    []

abbrev pub x64_rows_11 : List (ℕ × List ℕ)
x64_rows_11 =
    (382, codes "ymm14") ∷
    (383, codes "ymm15") ∷
    (396, codes "bnd0") ∷
    (397, codes "bnd1") ∷
    (398, codes "bnd2") ∷
    (694, codes "xmm16") ∷
    (695, codes "xmm17") ∷
    (696, codes "xmm18") ∷
    (697, codes "xmm19") ∷
    (698, codes "xmm20") ∷
    (699, codes "xmm21") ∷
    (700, codes "xmm22") ∷
    (701, codes "xmm23") ∷
    (702, codes "xmm24") ∷
    (703, codes "xmm25") ∷
    (704, codes "xmm26") ∷
    (705, codes "xmm27") ∷
    (706, codes "xmm28") ∷
    (707, codes "xmm29") ∷
    (708, codes "xmm30") ∷
    (709, codes "xmm31") ∷
    (710, codes "ymm16") ∷
    (711, codes "ymm17") ∷
    (712, codes "ymm18") ∷
    (713, codes "ymm19") ∷
    (714, codes "ymm20") ∷
    (715, codes "ymm21") ∷
    (716, codes "ymm22") ∷
    (717, codes "ymm23") ∷
    (718, codes "ymm24") ∷
    []

abbrev pub x64_rows_12 : List (ℕ × List ℕ)
x64_rows_12 =
    (719, codes "ymm25") ∷
    (720, codes "ymm26") ∷
    (721, codes "ymm27") ∷
    (722, codes "ymm28") ∷
    (723, codes "ymm29") ∷
    (724, codes "ymm30") ∷
    (725, codes "ymm31") ∷
    (726, codes "zmm0") ∷
    (727, codes "zmm1") ∷
    (728, codes "zmm2") ∷
    (729, codes "zmm3") ∷
    (730, codes "zmm4") ∷
    (731, codes "zmm5") ∷
    (732, codes "zmm6") ∷
    (733, codes "zmm7") ∷
    (734, codes "zmm8") ∷
    (735, codes "zmm9") ∷
    (736, codes "zmm10") ∷
    (737, codes "zmm11") ∷
    (738, codes "zmm12") ∷
    (739, codes "zmm13") ∷
    (740, codes "zmm14") ∷
    (741, codes "zmm15") ∷
    (742, codes "zmm16") ∷
    (743, codes "zmm17") ∷
    (744, codes "zmm18") ∷
    (745, codes "zmm19") ∷
    (746, codes "zmm20") ∷
    (747, codes "zmm21") ∷
    (748, codes "zmm22") ∷
    []

abbrev pub x64_rows_13 : List (ℕ × List ℕ)
x64_rows_13 =
    (749, codes "zmm23") ∷
    (750, codes "zmm24") ∷
    (751, codes "zmm25") ∷
    (752, codes "zmm26") ∷
    (753, codes "zmm27") ∷
    (754, codes "zmm28") ∷
    (755, codes "zmm29") ∷
    (756, codes "zmm30") ∷
    (757, codes "zmm31") ∷
    (758, codes "k0") ∷
    (759, codes "k1") ∷
    (760, codes "k2") ∷
    (761, codes "k3") ∷
    (762, codes "k4") ∷
    (763, codes "k5") ∷
    (764, codes "k6") ∷
    (765, codes "k7") ∷
    []

-- the name of a number below 246
unfoldable pub x64_low_name : ℕ → Option (List ℕ)
x64_low_name n =
    if nat_lt n 31 then name_in x64_rows_1 n
    else if nat_lt n 115 then name_in x64_rows_2 n
    else if nat_lt n 148 then name_in x64_rows_3 n
    else if nat_lt n 178 then name_in x64_rows_4 n
    else if nat_lt n 208 then name_in x64_rows_5 n
    else name_in x64_rows_6 n

-- the name of another number
unfoldable pub x64_high_name : ℕ → Option (List ℕ)
x64_high_name n =
    if nat_lt n 276 then name_in x64_rows_7 n
    else if nat_lt n 306 then name_in x64_rows_8 n
    else if nat_lt n 352 then name_in x64_rows_9 n
    else if nat_lt n 382 then name_in x64_rows_10 n
    else if nat_lt n 719 then name_in x64_rows_11 n
    else if nat_lt n 749 then name_in x64_rows_12 n
    else name_in x64_rows_13 n

-- the name of a number
abbrev pub x64_name : ℕ → Option (List ℕ)
x64_name n = if nat_lt n 246 then x64_low_name n else x64_high_name n
