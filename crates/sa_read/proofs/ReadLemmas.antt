-- A file that is read piece by piece.
use Rattle.std.proofs.Common.{◌≡◌, ℕ, ◌+◌, ◌<◌, ◌≤◌, List, [], ◌++◌, length, take, drop, Option, None, Some, sym, ap, ◌∙◌, arith, refl, ◌-◌, take-add, length-take, length-drop, length-append}
use Rattle.std.proofs.lemmas.List.{length-take-le, take_all, take-take}
use Rattle.std.specs.Prelude.{⊤}
use Rattle.std.specs.FinMap.{get}
use Rattle.host_io.specs.Files.{Files, Reads}
use Rattle.std.proofs.Common.{Global, Vec, subst}
use Rattle.sa_read.specs.FileContents.{HasFile, HasLonger, IsReadOf}
use Rattle.sa_read.specs.declared.read.FileContents.{FileContents}
use Rattle.sa_read.specs.declared.read.FileContents.TheVariants.{Whole, Cut}

-- if there is a file of this name, it begins with these bytes, where the store says so
abbrev pub HasFront : Option Files → List ℕ → List ℕ → Type 0
HasFront None name bytes = ⊤
HasFront (Some files) name bytes = (file : List ℕ) → get files name ≡ Some file → take (length bytes) file ≡ bytes

pub front_empty : (files : Option Files) (name : List ℕ) → HasFront files name []
front_empty None name = tt
front_empty (Some files) name = λ file there. refl

-- a piece of n bytes lies in the file
piece-within : (n at : ℕ) (buffer file : List ℕ) → take n buffer ≡ take n (drop at file) → n ≤ length buffer → n ≤ length file - at
piece-within n at buffer file same fits =
    omega (arith, length-take-le n buffer fits, ap length same, length-take n (drop at file), length-drop at file)

-- one more piece of a list that is read from its first element on
take-piece : (n : ℕ) (bytes buffer file : List ℕ) → take (length bytes) file ≡ bytes → take n buffer ≡ take n (drop (length bytes) file) → n ≤ length buffer → take (length (bytes ++ take n buffer)) file ≡ bytes ++ take n buffer
take-piece n bytes buffer file front same fits =
    let len : length (bytes ++ take n buffer) ≡ length bytes + n = length-append bytes (take n buffer) ∙ ap (λ k. length bytes + k) (length-take-le n buffer fits) in
    ap (λ k. take k file) len ∙ take-add (length bytes) n file ∙ ap (λ xs. xs ++ take n (drop (length bytes) file)) front ∙ ap (λ xs. bytes ++ xs) (sym same)

-- a list up to a limit that lies in the next piece
take-passed : (n : ℕ) (bytes buffer file : List ℕ) (limit : ℕ) → take (length bytes) file ≡ bytes → take n buffer ≡ take n (drop (length bytes) file) → length bytes ≤ limit → limit - length bytes ≤ n → take limit file ≡ bytes ++ take (limit - length bytes) buffer
take-passed n bytes buffer file limit front same within past =
    let room = limit - length bytes in
    let split : limit ≡ length bytes + room = omega arith in
    let shorter : take room buffer ≡ take room (drop (length bytes) file) =
    sym (take-take room n buffer past) ∙ ap (take room) same ∙ take-take room n (drop (length bytes) file) past in
    ap (λ k. take k file) split ∙ take-add (length bytes) room file ∙ ap (λ xs. xs ++ take room (drop (length bytes) file)) front ∙ ap (λ xs. bytes ++ xs) (sym shorter)

-- a piece that was read after a prefix makes a longer prefix
pub front_grows : (files : Option Files) (name bytes buffer more : List ℕ) (place n taken : ℕ) → place ≡ length bytes → n ≤ length buffer → taken ≡ n → more ≡ bytes ++ take taken buffer → HasFront files name bytes → Reads files name place n buffer → HasFront files name more
front_grows None name bytes buffer more place n taken at fits all longer front read = tt
front_grows (Some files) name bytes buffer more place n taken at fits all longer front read = λ file there.
    let same : file ≡ read.0 = cc in
    let piece : take n buffer ≡ take n (drop (length bytes) file) = rw (same, ← at) read.2.bytes in
    rw (longer, all) (take-piece n bytes buffer file (front file there) piece fits)

-- where nothing was read after the prefix, the prefix is the file
pub front_ends : (files : Option Files) (name bytes buffer : List ℕ) (place n : ℕ) → place ≡ length bytes → n ≡ 0 → HasFront files name bytes → Reads files name place n buffer → HasFile files name bytes
front_ends None name bytes buffer place n at none front read = tt
front_ends (Some files) name bytes buffer place n at none front read =
    let ended : length read.0 ≤ place = read.2.at_end.0 none in
    read.1 ∙ ap Some (sym (take_all (length bytes) read.0 (omega arith)) ∙ front read.0 read.1)

-- a piece that passes the limit is of a longer file, which begins with what is taken up to the limit
pub front_passes : (files : Option Files) (name bytes buffer more : List ℕ) (place n taken limit : ℕ) → place ≡ length bytes → n ≤ length buffer → length bytes ≤ limit → taken ≡ limit - length bytes → taken < n → more ≡ bytes ++ take taken buffer → HasFront files name bytes → Reads files name place n buffer → HasLonger files name limit more
front_passes None name bytes buffer more place n taken limit at fits within room past longer front read = tt
front_passes (Some files) name bytes buffer more place n taken limit at fits within room past longer front read =
    let there = piece-within n place buffer read.0 read.2.bytes fits in
    let passed = take-passed n bytes buffer read.0 limit (front read.0 read.1) (rw (← at) read.2.bytes) within (omega arith) in
    (read.0, read.1, omega arith, longer ∙ ap (λ k. bytes ++ take k buffer) room ∙ sym passed)

-- a read that was cut, by what the store held before
pub cut_of : (before files : Option Files) (name : List ℕ) (limit : ℕ) (read : FileContents) (text : Vec ℕ Global) → files ≡ before → read ≡ Cut text → IsReadOf files name limit read → HasLonger before name limit text.items × (length text.items ≡ limit)
cut_of before files name limit read text same is of_file = subst (λ files. HasLonger files name limit text.items × (length text.items ≡ limit)) same (subst (IsReadOf files name limit) is of_file)

-- a read of a whole file
pub whole_of : (before files : Option Files) (name : List ℕ) (limit : ℕ) (read : FileContents) (text : Vec ℕ Global) → files ≡ before → read ≡ Whole text → IsReadOf files name limit read → HasFile before name text.items × (length text.items ≤ limit)
whole_of before files name limit read text same is of_file = subst (λ files. HasFile files name text.items × (length text.items ≤ limit)) same (subst (IsReadOf files name limit) is of_file)
