-- The ends of the commands on listings.
use Rattle.std.proofs.Common.{◌≡◌, ◌≤◌, ◌∙◌, ℕ, List, [], length, Option, inl, inr, refl, subst, sym}
use Rattle.std.specs.Global.{Vec}
use Rattle.host_io.specs.Files.{Files}
use Rattle.sa_read.specs.FileContents.{HasFile, IsReadOf}
use Rattle.sa_read.specs.declared.read.FileContents.{FileContents}
use Rattle.sa_read.specs.declared.read.FileContents.TheVariants.{Whole}
use Rattle.sa_ast.specs.declared.pos.Sources.{Sources}
use Rattle.sa_driver.specs.Answer.{IsAssembled, IsListed}
use Rattle.sa_driver.specs.Ends.{IsWritten}
use Rattle.sa_driver.specs.Lines.{IsPlaced}
use Rattle.sa_driver.specs.Listings.{Assembles, EndsWithoutModule, IsAssemblyOf, ListsModule, SaysNoListing}
use Rattle.sa_driver.specs.HostParts.{Failed, HostPart}
use Rattle.sa_driver.specs.declared.cause.Cause.{Cause}
use Rattle.sa_driver.specs.declared.cause.Cause.TheVariants as cause
use Rattle.sa_driver.specs.declared.outcome.Outcome.{Outcome}
use Rattle.sa_driver.proofs.EndLemmas.{part_of, placed_print, placed_write, written_earlier}

-- the cause why bytes have no listing names no position
placed_no_listing : (bytes : List ℕ) (sources : Sources) (ends : Cause) → SaysNoListing bytes ends → IsPlaced sources ends
placed_no_listing bytes sources (cause.Refused refusal) says = absurd says
placed_no_listing bytes sources (cause.Fault kind pos) says = absurd says
placed_no_listing bytes sources _ says = tt

placed_without_module : (text : List ℕ) (sources : Sources) (ends : Cause) → EndsWithoutModule text ends → IsPlaced sources ends
placed_without_module text sources (cause.Refused refusal) says = absurd says
placed_without_module text sources (cause.Fault kind pos) says = absurd says
placed_without_module text sources _ says = tt

-- nor do the ends of the commands
pub placed_listing : (out : HostPart (List ℕ)) (bytes : List ℕ) (sources : Sources) (ends : Cause) → ListsModule out bytes ends → IsPlaced sources ends
placed_listing out bytes sources ends (inl (text, listing, printed)) = placed_print (Failed out) sources ends printed.comes
placed_listing out bytes sources ends (inr (says, kept)) = placed_no_listing bytes sources ends says

pub placed_assembly : (store : HostPart Files) (name text bytes : List ℕ) (sources : Sources) (ends : Cause) → Assembles store name text bytes ends → IsPlaced sources ends
placed_assembly store name text bytes sources ends (inl (assembly, written)) = placed_write (Failed store) sources ends written.comes
placed_assembly store name text bytes sources ends (inr (says, none, kept)) = placed_without_module text sources ends says

-- what was assembled, counted from an earlier time on
pub assembled_earlier : (before middle after : Option Files) (a b c : ℕ) (name text bytes : List ℕ) (ends : Cause) → middle ≡ before → a ≤ b → Assembles (part_of middle after b c) name text bytes ends → Assembles (part_of before after a c) name text bytes ends
assembled_earlier before middle after a b c name text bytes ends same less (inl (assembly, written)) =
    inl (assembly, written_earlier before middle after a b c name bytes bytes ends ends same less refl refl written)
assembled_earlier before middle after a b c name text bytes ends same less (inr (says, none, kept)) = inr (says, none, kept ∙ same)

-- the bytes of a file that was read whole
whole_read : (files : Option Files) (file : List ℕ) (read : FileContents) (bytes : Vec ℕ) → read ≡ Whole bytes → IsReadOf files file 67_108_864 read → HasFile files file bytes.items × (length bytes.items ≤ 67_108_864)
whole_read files file read bytes is of_file = subst (IsReadOf files file 67_108_864) is of_file

-- a module that was read whole was listed
pub whole_listed : (store : HostPart Files) (out : HostPart (List ℕ)) (file given : List ℕ) (read : FileContents) (bytes : Vec ℕ) (ends : Cause) (outcome : Outcome) → read ≡ Whole bytes → IsReadOf store.before file 67_108_864 read → given ≡ bytes.items → outcome.«module».items ≡ [] → outcome.cause ≡ ends → ListsModule out given ends → IsListed store out file outcome
whole_listed store out file given read bytes ends outcome is of_file same none same_ends lists =
    let whole = whole_read store.before file read bytes is of_file in
    let listed : ListsModule out bytes.items ends = subst (λ (them : List ℕ). ListsModule out them ends) same lists in
    inr (bytes.items, whole, none, subst (λ (cause : Cause). ListsModule out bytes.items cause) (sym same_ends) listed)

-- what was assembled from a text, as an outcome reports it
pub text_assembled : (store : HostPart Files) (name text bytes given reported : List ℕ) (ends told_ends : Cause) → IsAssemblyOf text bytes → given ≡ bytes → reported ≡ bytes → told_ends ≡ ends → IsWritten store name given ends → Assembles store name text reported told_ends
text_assembled store name text bytes given reported ends told_ends assembly same same_told same_ends written =
    rw (same_told, same_ends) (inl (assembly, subst (λ (them : List ℕ). IsWritten store name them ends) same written))

-- the module of a text that was read whole was written, or there is none
pub whole_assembled : (before middle after : Option Files) (a b c : ℕ) (name file given : List ℕ) (read : FileContents) (text : Vec ℕ) (outcome : Outcome) → read ≡ Whole text → IsReadOf before file 67_108_864 read → middle ≡ before → a ≤ b → given ≡ text.items → Assembles (part_of middle after b c) name given outcome.«module».items outcome.cause → IsAssembled (part_of before after a c) name file outcome
whole_assembled before middle after a b c name file given read text outcome is of_file same less same_text assembles =
    let whole = whole_read before file read text is of_file in
    let here : Assembles (part_of middle after b c) name text.items outcome.«module».items outcome.cause =
    subst (λ (them : List ℕ). Assembles (part_of middle after b c) name them outcome.«module».items outcome.cause) same_text assembles in
    inr (text.items, whole.0, whole.1, assembled_earlier before middle after a b c name text.items outcome.«module».items outcome.cause same less here)
