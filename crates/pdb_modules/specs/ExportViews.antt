-- What contracts see of exports.
use Rattle.std.specs.Prelude.{ℕ, ◌^◌, Bool, true, false, nat_lt, if◌then◌else◌}
use Rattle.pdb_modules.specs.declared.exports.CrossModuleExport.{CrossModuleExport}
use Rattle.pdb_modules.specs.declared.exports.CrossModuleExport.TheVariants.{«Type», Id}

abbrev pub is_id : CrossModuleExport → Bool
is_id («Type» l g) = false
is_id (Id l g) = true

abbrev pub local_of : CrossModuleExport → ℕ
local_of («Type» l g) = l.0.0
local_of (Id l g) = l.0.0

abbrev pub global_number_of : CrossModuleExport → ℕ
global_number_of («Type» l g) = g.0
global_number_of (Id l g) = g.0

-- the export of a local number and a global one: an id where the local one has the top bit, else a type
abbrev pub export_of : ℕ × ℕ → CrossModuleExport
export_of x =
    if nat_lt x.0 (2 ^ 31) then «Type» (record { 0 = record { 0 = x.0 } }) (record { 0 = x.1 })
    else Id (record { 0 = record { 0 = x.0 } }) (record { 0 = x.1 })
