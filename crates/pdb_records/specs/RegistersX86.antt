-- The registers of x86: a number, and a name.
use Rattle.std.specs.Prelude.{ℕ, List, [], ◌∷◌, Option, codes, nat_lt, if◌then◌else◌}
use Rattle.pdb_records.specs.NameRows.{name_in}

abbrev pub x86_rows_1 : List (ℕ × List ℕ)
x86_rows_1 =
    (1, codes "al") ∷
    (2, codes "cl") ∷
    (3, codes "dl") ∷
    (4, codes "bl") ∷
    (5, codes "ah") ∷
    (6, codes "ch") ∷
    (7, codes "dh") ∷
    (8, codes "bh") ∷
    (9, codes "ax") ∷
    (10, codes "cx") ∷
    (11, codes "dx") ∷
    (12, codes "bx") ∷
    (13, codes "sp") ∷
    (14, codes "bp") ∷
    (15, codes "si") ∷
    (16, codes "di") ∷
    (17, codes "eax") ∷
    (18, codes "ecx") ∷
    (19, codes "edx") ∷
    (20, codes "ebx") ∷
    (21, codes "esp") ∷
    (22, codes "ebp") ∷
    (23, codes "esi") ∷
    (24, codes "edi") ∷
    (25, codes "es") ∷
    (26, codes "cs") ∷
    (27, codes "ss") ∷
    (28, codes "ds") ∷
    (29, codes "fs") ∷
    (30, codes "gs") ∷
    []

abbrev pub x86_rows_2 : List (ℕ × List ℕ)
x86_rows_2 =
    (31, codes "ip") ∷
    (32, codes "flags") ∷
    (33, codes "eip") ∷
    (34, codes "eflags") ∷
    (40, codes "temp") ∷
    (41, codes "temph") ∷
    (42, codes "quote") ∷
    (43, codes "pcdr3") ∷
    (44, codes "pcdr4") ∷
    (45, codes "pcdr5") ∷
    (46, codes "pcdr6") ∷
    (47, codes "pcdr7") ∷
    (80, codes "cr0") ∷
    (81, codes "cr1") ∷
    (82, codes "cr2") ∷
    (83, codes "cr3") ∷
    (84, codes "cr4") ∷
    (90, codes "dr0") ∷
    (91, codes "dr1") ∷
    (92, codes "dr2") ∷
    (93, codes "dr3") ∷
    (94, codes "dr4") ∷
    (95, codes "dr5") ∷
    (96, codes "dr6") ∷
    (97, codes "dr7") ∷
    (110, codes "gdtr") ∷
    (111, codes "gdtl") ∷
    (112, codes "idtr") ∷
    (113, codes "idtl") ∷
    (114, codes "ldtr") ∷
    []

abbrev pub x86_rows_3 : List (ℕ × List ℕ)
x86_rows_3 =
    (115, codes "tr") ∷
    (116, codes "pseudo1") ∷
    (117, codes "pseudo2") ∷
    (118, codes "pseudo3") ∷
    (119, codes "pseudo4") ∷
    (120, codes "pseudo5") ∷
    (121, codes "pseudo6") ∷
    (122, codes "pseudo7") ∷
    (123, codes "pseudo8") ∷
    (124, codes "pseudo9") ∷
    (128, codes "st0") ∷
    (129, codes "st1") ∷
    (130, codes "st2") ∷
    (131, codes "st3") ∷
    (132, codes "st4") ∷
    (133, codes "st5") ∷
    (134, codes "st6") ∷
    (135, codes "st7") ∷
    (136, codes "ctrl") ∷
    (137, codes "stat") ∷
    (138, codes "tag") ∷
    (139, codes "fpip") ∷
    (140, codes "fpcs") ∷
    (141, codes "fpdo") ∷
    (142, codes "fpds") ∷
    (143, codes "isem") ∷
    (144, codes "fpeip") ∷
    (145, codes "fpedo") ∷
    (146, codes "mm0") ∷
    (147, codes "mm1") ∷
    []

abbrev pub x86_rows_4 : List (ℕ × List ℕ)
x86_rows_4 =
    (148, codes "mm2") ∷
    (149, codes "mm3") ∷
    (150, codes "mm4") ∷
    (151, codes "mm5") ∷
    (152, codes "mm6") ∷
    (153, codes "mm7") ∷
    (154, codes "xmm0") ∷
    (155, codes "xmm1") ∷
    (156, codes "xmm2") ∷
    (157, codes "xmm3") ∷
    (158, codes "xmm4") ∷
    (159, codes "xmm5") ∷
    (160, codes "xmm6") ∷
    (161, codes "xmm7") ∷
    (162, codes "xmm0_0") ∷
    (163, codes "xmm0_1") ∷
    (164, codes "xmm0_2") ∷
    (165, codes "xmm0_3") ∷
    (166, codes "xmm1_0") ∷
    (167, codes "xmm1_1") ∷
    (168, codes "xmm1_2") ∷
    (169, codes "xmm1_3") ∷
    (170, codes "xmm2_0") ∷
    (171, codes "xmm2_1") ∷
    (172, codes "xmm2_2") ∷
    (173, codes "xmm2_3") ∷
    (174, codes "xmm3_0") ∷
    (175, codes "xmm3_1") ∷
    (176, codes "xmm3_2") ∷
    (177, codes "xmm3_3") ∷
    []

abbrev pub x86_rows_5 : List (ℕ × List ℕ)
x86_rows_5 =
    (178, codes "xmm4_0") ∷
    (179, codes "xmm4_1") ∷
    (180, codes "xmm4_2") ∷
    (181, codes "xmm4_3") ∷
    (182, codes "xmm5_0") ∷
    (183, codes "xmm5_1") ∷
    (184, codes "xmm5_2") ∷
    (185, codes "xmm5_3") ∷
    (186, codes "xmm6_0") ∷
    (187, codes "xmm6_1") ∷
    (188, codes "xmm6_2") ∷
    (189, codes "xmm6_3") ∷
    (190, codes "xmm7_0") ∷
    (191, codes "xmm7_1") ∷
    (192, codes "xmm7_2") ∷
    (193, codes "xmm7_3") ∷
    (194, codes "xmm0l") ∷
    (195, codes "xmm1l") ∷
    (196, codes "xmm2l") ∷
    (197, codes "xmm3l") ∷
    (198, codes "xmm4l") ∷
    (199, codes "xmm5l") ∷
    (200, codes "xmm6l") ∷
    (201, codes "xmm7l") ∷
    (202, codes "xmm0h") ∷
    (203, codes "xmm1h") ∷
    (204, codes "xmm2h") ∷
    (205, codes "xmm3h") ∷
    (206, codes "xmm4h") ∷
    (207, codes "xmm5h") ∷
    []

abbrev pub x86_rows_6 : List (ℕ × List ℕ)
x86_rows_6 =
    (208, codes "xmm6h") ∷
    (209, codes "xmm7h") ∷
    (211, codes "mxcsr") ∷
    (212, codes "edxeax") ∷
    (220, codes "emm0l") ∷
    (221, codes "emm1l") ∷
    (222, codes "emm2l") ∷
    (223, codes "emm3l") ∷
    (224, codes "emm4l") ∷
    (225, codes "emm5l") ∷
    (226, codes "emm6l") ∷
    (227, codes "emm7l") ∷
    (228, codes "emm0h") ∷
    (229, codes "emm1h") ∷
    (230, codes "emm2h") ∷
    (231, codes "emm3h") ∷
    (232, codes "emm4h") ∷
    (233, codes "emm5h") ∷
    (234, codes "emm6h") ∷
    (235, codes "emm7h") ∷
    (236, codes "mm00") ∷
    (237, codes "mm01") ∷
    (238, codes "mm10") ∷
    (239, codes "mm11") ∷
    (240, codes "mm20") ∷
    (241, codes "mm21") ∷
    (242, codes "mm30") ∷
    (243, codes "mm31") ∷
    (244, codes "mm40") ∷
    (245, codes "mm41") ∷
    []

abbrev pub x86_rows_7 : List (ℕ × List ℕ)
x86_rows_7 =
    (246, codes "mm50") ∷
    (247, codes "mm51") ∷
    (248, codes "mm60") ∷
    (249, codes "mm61") ∷
    (250, codes "mm70") ∷
    (251, codes "mm71") ∷
    (252, codes "ymm0") ∷
    (253, codes "ymm1") ∷
    (254, codes "ymm2") ∷
    (255, codes "ymm3") ∷
    (256, codes "ymm4") ∷
    (257, codes "ymm5") ∷
    (258, codes "ymm6") ∷
    (259, codes "ymm7") ∷
    (396, codes "bnd0") ∷
    (397, codes "bnd1") ∷
    (398, codes "bnd2") ∷
    []

-- the name of a number
abbrev pub x86_name : ℕ → Option (List ℕ)
x86_name n =
    if nat_lt n 31 then name_in x86_rows_1 n
    else if nat_lt n 115 then name_in x86_rows_2 n
    else if nat_lt n 148 then name_in x86_rows_3 n
    else if nat_lt n 178 then name_in x86_rows_4 n
    else if nat_lt n 208 then name_in x86_rows_5 n
    else if nat_lt n 246 then name_in x86_rows_6 n
    else name_in x86_rows_7 n
