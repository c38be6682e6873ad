-- The texts of a program, one more at a time.
use Rattle.std.proofs.Common.{◌≡◌, ◌∙◌, ◌⊎◌, inl, inr, map, slice_index_or, ℕ, ◌+◌, ◌<◌, ◌≤◌, suc, List, [], ◌∷◌, ◌++◌, codes, length, take, Option, sym, subst, refl, ap, arith}
use Rattle.std.proofs.Math.Seq.{take-append_seam, take-suc}
use Rattle.std.proofs.lemmas.List.{get_or_append_left, get_or-map, get_or_push, length-append, length-map}
use Rattle.std.proofs.lemmas.List.Sums.{sum_by-append}
use Rattle.std.specs.Borrow.{Bor}
use Rattle.host_io.proofs.Counts.{Rose-earlier}
use Rattle.host_io.specs.Faults.{Rose}
use Rattle.host_io.specs.Files.{Files, Lacks}
use Rattle.sa_ast.specs.declared.pos.Sources.{Sources}
use Rattle.sa_read.specs.FileContents.{HasFile, HasLonger}
use Rattle.sa_read.specs.SourceFiles.{AreNamed, HaveTexts, IsCut, LacksOneOf, at, most, size, too_large}
use Rattle.sa_read.proofs.FrontLemmas.{up_to_next}

-- the name at an index, of names that are borrowed
pub name_at : (names : List (Bor (List ℕ))) (n : ℕ) (d : Bor (List ℕ)) → n < length names → (slice_index_or names n d).now ≡ at (map (λ name. name.now) names) n
name_at names n d there = sym (get_or-map (λ (name : Bor (List ℕ)). name.now) names n d [] there)

-- the next number, as clauses and as sums write it
pub next : (n : ℕ) → suc n ≡ n + 1
next n = omega arith

-- a file that couldn't be read
pub unread : (files : Option Files) (names : List (Bor (List ℕ))) (sources : Sources) (n : ℕ) (d : Bor (List ℕ)) (first before after : ℕ) → AreNamed (map (λ name. name.now) names) sources n → HaveTexts files (map (λ name. name.now) names) sources.texts n → size sources.texts ≤ most → n < length names → first ≤ before → Rose before after ⊎ Lacks files (slice_index_or names n d).now → Rose first after ⊎ LacksOneOf files (map (λ name. name.now) names)
unread files names sources n d first before after named have small there less (inl rose) = inl (Rose-earlier first before after less rose)
unread files names sources n d first before after named have small there less (inr lacks) = inr (record {
  number = n;
  there = omega (arith, length-map names (λ (name : Bor (List ℕ)). name.now), there);
  lacks = subst (Lacks files) (name_at names n d there) lacks;
  before = sources;
  named = named;
  texts = have;
  small = small;
})

-- one more name
pub named_more : (names : List (List ℕ)) (sources new : Sources) (n : ℕ) (name text : List ℕ) → AreNamed names sources n → n < length names → name ≡ at names n → new.names ≡ sources.names ++ name ∷ [] → new.texts ≡ sources.texts ++ text ∷ [] → AreNamed names new (suc n)
named_more names sources new n name text named there is more longer = record {
  named = more ∙ ap (λ xs. xs ++ name ∷ []) named.named ∙ ap (λ x. (codes "prelude" ∷ take n names) ++ x ∷ []) is ∙ ap (λ xs. codes "prelude" ∷ xs) (sym (take-suc names n [] there));
  first = ap (λ texts. at texts 0) longer ∙ get_or_append_left sources.texts (text ∷ []) [] 0 (omega (arith, named.count)) ∙ named.first;
  count = omega (arith, ap length longer, length-append sources.texts (text ∷ []), named.count);
  there = omega arith;
}

-- a text that is added after the others leaves them
pub texts_kept : (files : Option Files) (names texts : List (List ℕ)) (n : ℕ) (text : List ℕ) → length texts ≡ suc n → HaveTexts files names texts n → HaveTexts files names (texts ++ text ∷ []) n
texts_kept files names texts n text count have k lt =
    subst (HasFile files (at names k)) (sym (get_or_append_left texts (text ∷ []) [] (suc k) (omega (arith, count)))) (have k lt)

-- one more text
pub texts_more : (files : Option Files) (names texts : List (List ℕ)) (n : ℕ) (text : List ℕ) → length texts ≡ suc n → HasFile files (at names n) text → HaveTexts files names texts n → HaveTexts files names (texts ++ text ∷ []) (n + 1)
texts_more files names texts n text count here have =
    up_to_next (λ k. HasFile files (at names k) (at (texts ++ text ∷ []) (suc k))) n (texts_kept files names texts n text count have)
    (subst (HasFile files (at names n)) (sym (get_or_push texts text [] (suc n) count)) here)

-- the bytes of one more text
pub size_more : (texts : List (List ℕ)) (text : List ℕ) → size (texts ++ text ∷ []) ≡ size texts + length text
size_more texts text = omega (arith, sum_by-append length texts (text ∷ []))

-- the text of a file that is too large is the last one
pub cut : (files : Option Files) (names : List (List ℕ)) (sources new : Sources) (n room : ℕ) (name text : List ℕ) → AreNamed names sources n → HaveTexts files names sources.texts n → size sources.texts + room ≡ most → n < length names → name ≡ at names n → new.names ≡ sources.names ++ name ∷ [] → new.texts ≡ sources.texts ++ text ∷ [] → HasLonger files name room text → IsCut files names new (too_large (suc n) room)
cut files names sources new n room name text named have small there is more longer past = record {
  last = n;
  there = there;
  named = named_more names sources new n name text named there is more longer;
  texts = rw longer (texts_kept files names sources.texts n text named.count have);
  longer = rw longer (rw (get_or_push sources.texts text [] (suc n) named.count) (subst (λ file. HasLonger files file room text) is past));
  room = rw longer (ap (λ texts. size texts + room) (ap (λ k. take k (sources.texts ++ text ∷ [])) (sym named.count) ∙ take-append_seam sources.texts (text ∷ [])) ∙ small);
  cut = refl;
}
