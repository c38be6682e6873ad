-- The positions of faults, as JSON, and the file that gets them after the module has been written.
use Rattle.std.specs.Prelude.{ℕ, ◌≡◌, ◌⊎◌, List, [], ◌∷◌, ◌++◌, codes, decimal, flat_map, Option, None, Some}
use Rattle.std.specs.List.{All}
use Rattle.json.specs.Print.{print}
use Rattle.json.specs.Token.{Token, begin_array, begin_object, end_array, end_object, key, number, string}
use Rattle.sa_driver.specs.Ends.{AreWritten, IsWritten}
use Rattle.sa_driver.specs.Files.{IsPlaceIn}
use Rattle.sa_driver.specs.Internal.{IsInternal}
use Rattle.sa_driver.specs.Lines.{file_name, line_number}
use Rattle.sa_driver.specs.HostParts.{IsUnchanged, HostPart}
use Rattle.sa_driver.specs.declared.cause.Cause.{Cause}
use Rattle.sa_driver.specs.declared.cause.Cause.TheVariants as cause
use Rattle.host_io.specs.Files.{Files}
use Rattle.sa_ast.specs.declared.pos.Pos.{Pos}
use Rattle.sa_ast.specs.declared.pos.Sources.{Sources}

-- `"file": NAME, "line": NUMBER` of a position
abbrev pub site_members : Sources → Pos → List Token
site_members sources pos =
    key (codes "file") ∷ string (file_name sources pos) ∷ key (codes "line") ∷ number (decimal (line_number sources pos)) ∷ []

-- the object of a position
abbrev pub site_tokens : Sources → Pos → List Token
site_tokens sources pos = begin_object ∷ site_members sources pos ++ end_object ∷ []

-- the array of the positions, each at its index
abbrev pub sites_text : Sources → List Pos → List ℕ
sites_text sources positions = print (begin_array ∷ flat_map (site_tokens sources) positions ++ end_array ∷ [])

-- the file of this name was to get the module; and then the file of the sites, if there is one, these positions, which are in these
-- texts, unless there was an internal end before anything was written
abbrev pub WritesModule : HostPart Files → (name bytes : List ℕ) → (sites : Option (List ℕ)) → Sources → (positions : List Pos) → Cause → Type 0
WritesModule store name bytes None sources positions ends = IsWritten store name bytes ends
WritesModule store name bytes (Some file) sources positions ends =
    (IsUnchanged store × IsInternal ends)
    ⊎ (All (IsPlaceIn sources.texts) positions × AreWritten store name bytes file (sites_text sources positions) ends)
