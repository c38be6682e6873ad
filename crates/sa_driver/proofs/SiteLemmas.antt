-- The module and the positions of its faults, written to two files.
use Rattle.std.proofs.Common.{◌≡◌, ◌∙◌, ℕ, List, Option, None, Some, ap, inl, inr, refl, subst}
use Rattle.std.specs.List.{All}
use Rattle.host_io.specs.Files.{Files}
use Rattle.sa_ast.specs.declared.pos.Pos.{Pos}
use Rattle.sa_ast.specs.declared.pos.Sources.{Sources}
use Rattle.sa_driver.specs.Ends.{AreWritten, IsWritten}
use Rattle.sa_driver.specs.Files.{IsPlaceIn}
use Rattle.sa_driver.specs.Internal.{IsInternal}
use Rattle.sa_driver.specs.HostParts.{HostPart}
use Rattle.sa_driver.specs.Sites.{WritesModule, sites_text}
use Rattle.sa_driver.specs.declared.cause.Cause.{Cause}
use Rattle.sa_driver.specs.declared.cause.Cause.TheVariants as cause

-- the module alone
pub module_alone : (store : HostPart Files) (name given bytes : List ℕ) (sites : Option (List ℕ)) (sources : Sources) (positions : List Pos) (ends : Cause) → sites ≡ None → given ≡ bytes → IsWritten store name given ends → WritesModule store name bytes sites sources positions ends
module_alone store name given bytes sites sources positions ends none same written = rw none (subst (λ bytes. IsWritten store name bytes ends) same written)

-- the module, and then the positions
pub sites_behind : (store : HostPart Files) (name given bytes : List ℕ) (sites : Option (List ℕ)) (file text : List ℕ) (sources : Sources) (listed positions : List Pos) (ends : Cause) → sites ≡ Some file → given ≡ bytes → text ≡ sites_text sources listed → listed ≡ positions → All (IsPlaceIn sources.texts) listed → AreWritten store name given file text ends → WritesModule store name bytes sites sources positions ends
sites_behind store name given bytes sites file text sources listed positions ends some same same_text same_positions placed written =
    let of_text = subst (λ text. AreWritten store name given file text ends) (same_text ∙ ap (sites_text sources) same_positions) written in
    rw some (inr (
      subst (All (IsPlaceIn sources.texts)) same_positions placed,
      subst (λ bytes. AreWritten store name bytes file (sites_text sources positions) ends) same of_text,
    ))

-- neither, for want of memory
pub none_written : (store : HostPart Files) (name bytes : List ℕ) (sites : Option (List ℕ)) (file : List ℕ) (sources : Sources) (positions : List Pos) (ends : Cause) → sites ≡ Some file → store.after ≡ store.before → IsInternal ends → WritesModule store name bytes sites sources positions ends
none_written store name bytes sites file sources positions ends some same is = rw some (inl (same, is))
