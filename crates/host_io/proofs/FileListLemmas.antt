-- A list of files as a map from names to bytes.
use Rattle.std.proofs.Common.{◌≡◌, ◌≢◌, ℕ, zero, suc, ◌<◌, Bool, true, false, cond, List, [], ◌∷◌, ◌++◌, length, get_or, Some, None, Option, string_bytes, refl, sym, ap, subst, ◌∙◌, arith}
use Rattle.std.proofs.Math.ListN.{set}
use Rattle.std.proofs.lemmas.Bool.{false_from_ne_true}
use Rattle.std.proofs.lemmas.List.{map-append}
use Rattle.std.specs.Ordering.{nat_cmp, eq_by_cmp, is_eq}
use Rattle.std.specs.Cmp.{Equal-is, tied_itself}
use Rattle.std.specs.Cmp.Lexicographic.{slice_cmp, nat_list_cmp_total}
use Rattle.std.specs.FinMap.{get, insert, find, get-insert, get-from_entries, same_map, from_entries, from_entries_push, slice_cmp-IsAntisymmetric, nat_cmp-IsAntisymmetric}
use Rattle.host_io.specs.FileList.{File, entries_of, files_of, IsFirstOfName}

-- whether two names are the same, as a map tests it
abbrev is_name : List ℕ → List ℕ → Bool
is_name q x = eq_by_cmp (slice_cmp nat_cmp) q x

same : (q x : List ℕ) → is_name q x ≡ true → q ≡ x
same q x e = slice_cmp-IsAntisymmetric nat_cmp-IsAntisymmetric q x ((Equal-is (slice_cmp nat_cmp q x)).0 e)

itself : (x : List ℕ) → is_name x x ≡ true
itself x = ap is_eq (tied_itself nat_list_cmp_total x)

apart : (q x : List ℕ) → x ≢ q → is_name q x ≡ false
apart q x ne = false_from_ne_true _ (λ e. ne (sym (same q x e)))

-- the bytes under a name in a list of files
abbrev pub bytes_of : List ℕ → List File → Option (List ℕ)
bytes_of name files = find (slice_cmp nat_cmp) name (entries_of files)

pub get-files_of : (files : List File) (name : List ℕ) → get (files_of files) name ≡ bytes_of name files
get-files_of files name = get-from_entries nat_list_cmp_total (entries_of files) name

pub bytes_of-none : (name : List ℕ) (files : List File) → ((k : ℕ) (d : File) → k < length files → string_bytes (get_or files k d).0 ≢ name) → bytes_of name files ≡ None
bytes_of-none name [] none = refl
bytes_of-none name (f ∷ fs) none =
    ap (λ b. cond b (Some f.1.items) (bytes_of name fs)) (apart name (string_bytes f.0) (none 0 f (omega arith)))
    ∙ bytes_of-none name fs (λ k d h. none (suc k) d (omega arith))

-- the first index of a name in the files after the first one
later : (f : File) (fs : List File) (name : List ℕ) (k : ℕ) → IsFirstOfName (f ∷ fs) name (suc k) → IsFirstOfName fs name k
later f fs name k first = record {
  within = omega (arith, first.within);
  here = λ d. first.here d;
  before = λ j d h. first.before (suc j) d (omega arith);
}

pub bytes_of-first : (name : List ℕ) (files : List File) (k : ℕ) (d : File) → IsFirstOfName files name k → bytes_of name files ≡ Some (get_or files k d).1.items
bytes_of-first name [] k d first = absurd (omega (arith, first.within))
bytes_of-first name (f ∷ fs) zero d first =
    ap (λ b. cond b (Some f.1.items) (bytes_of name fs)) (subst (λ n. is_name name n ≡ true) (sym (first.here d)) (itself name))
bytes_of-first name (f ∷ fs) (suc k) d first =
    ap (λ b. cond b (Some f.1.items) (bytes_of name fs)) (apart name (string_bytes f.0) (first.before 0 d (omega arith)))
    ∙ bytes_of-first name fs k d (later f fs name k first)

-- a test that is made twice
made_twice : {A : Type 0} (b : Bool) (x y z : A) → cond b x z ≡ cond b x (cond b y z)
made_twice true x y z = refl
made_twice false x y z = refl

-- two tests that aren't both true may be swapped
swapped : {A : Type 0} (a b : Bool) (x y z : A) → (a ≡ true → b ≡ true → ⊥) → cond a x (cond b y z) ≡ cond b y (cond a x z)
swapped true true x y z not_both = absurd (not_both refl refl)
swapped true false x y z not_both = refl
swapped false b x y z not_both = refl

pub bytes_of-set : (q name : List ℕ) (files : List File) (k : ℕ) (f : File) → IsFirstOfName files name k → string_bytes f.0 ≡ name → bytes_of q (set files k f) ≡ cond (is_name q name) (Some f.1.items) (bytes_of q files)
bytes_of-set q name [] k f first named = absurd (omega (arith, first.within))
bytes_of-set q name (g ∷ fs) zero f first named =
    ap (λ n. cond (is_name q n) (Some f.1.items) (bytes_of q fs)) named
    ∙ made_twice (is_name q name) (Some f.1.items) (Some g.1.items) (bytes_of q fs)
    ∙ ap (λ n. cond (is_name q name) (Some f.1.items) (cond (is_name q n) (Some g.1.items) (bytes_of q fs))) (sym (first.here g))
bytes_of-set q name (g ∷ fs) (suc k) f first named =
    let not_both : is_name q (string_bytes g.0) ≡ true → is_name q name ≡ true → ⊥ = λ a b. first.before 0 g (omega arith) (sym (same q (string_bytes g.0) a) ∙ same q name b) in
    ap (λ r. cond (is_name q (string_bytes g.0)) (Some g.1.items) r) (bytes_of-set q name fs k f (later g fs name k first) named)
    ∙ swapped (is_name q (string_bytes g.0)) (is_name q name) (Some g.1.items) (Some f.1.items) (bytes_of q fs) not_both

-- to replace the first file of a name is to insert it
pub files_of-set : (name : List ℕ) (files : List File) (k : ℕ) (f : File) → IsFirstOfName files name k → string_bytes f.0 ≡ name → files_of (set files k f) ≡ insert (files_of files) name f.1.items
files_of-set name files k f first named =
    same_map nat_list_cmp_total (slice_cmp-IsAntisymmetric nat_cmp-IsAntisymmetric) _ _ (λ q.
    get-files_of (set files k f) q
    ∙ bytes_of-set q name files k f first named
    ∙ ap (cond (is_name q name) (Some f.1.items)) (sym (get-files_of files q))
    ∙ sym (get-insert nat_list_cmp_total (files_of files) name f.1.items q))

-- to push a file of a new name is to insert it
pub files_of-push : (name : List ℕ) (files : List File) (f : File) → ((k : ℕ) (d : File) → k < length files → string_bytes (get_or files k d).0 ≢ name) → string_bytes f.0 ≡ name → files_of (files ++ f ∷ []) ≡ insert (files_of files) name f.1.items
files_of-push name files f none named =
    ap (λ es. from_entries es) (map-append (λ g. (string_bytes g.0, g.1.items)) files (f ∷ []))
    ∙ ap (λ n. from_entries (entries_of files ++ (n, f.1.items) ∷ [])) named
    ∙ from_entries_push nat_list_cmp_total (slice_cmp-IsAntisymmetric nat_cmp-IsAntisymmetric) (entries_of files) name f.1.items (bytes_of-none name files none)
