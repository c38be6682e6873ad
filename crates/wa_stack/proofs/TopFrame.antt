-- The words of the top frame among all words. `view` is what contracts see of a stack of frames with these words.
use Rattle.std.proofs.Common.{◌≡◌, ℕ, suc, ◌+◌, ◌-◌, ◌<◌, ◌≤◌, List, [], ◌∷◌, ◌++◌, length, reverse, take, drop, slice_range, refl, sym, subst, ap, ◌∙◌, append_assoc, arith}
use Rattle.std.proofs.Math.Seq.{drop-append_seam}
use Rattle.std.proofs.lemmas.Grind.{common_steps}
use Rattle.std.proofs.lemmas.List.{length-drop, length-reverse, drop-take, take-append-le}
use Rattle.std.specs.Global.{Vec}
use Rattle.std.specs.Vec.{with_items_from}
use Rattle.wa_stack.specs.Frames.{frames, top, with_words}

-- ---- the top frame is the words from `base` on

pub top-frames : (base : ℕ) (bases words : List ℕ) (n : ℕ) (view : List (List ℕ)) → n ≡ length words → frames base bases words ≡ view → 0 < length view → take (n - base) (drop base words) ≡ top view
top-frames base [] words n view l e h =
    let none : 0 < length (frames base [] words) = subst (λ (v : List (List ℕ)). 0 < length v) (sym e) h in
    absurd (omega arith)
top-frames base (below ∷ bases) words n view l e h =
    let all : take (n - base) (drop base words) ≡ drop base words = rw l (grind (arith, common_steps)) in
    all ∙ ap top e

pub top-within : (base : ℕ) (bases words : List ℕ) (view : List (List ℕ)) (k : ℕ) → base ≤ length words → frames base bases words ≡ view → k ≤ length (top view) → base + k ≤ length words
top-within base [] words view k l e h =
    let none : k ≤ length (top (frames base [] words)) = subst (λ (v : List (List ℕ)). k ≤ length (top v)) (sym e) h in
    omega arith
top-within base (below ∷ bases) words view k l e h =
    let within : k ≤ length (top (frames base (below ∷ bases) words)) = subst (λ (v : List (List ℕ)). k ≤ length (top v)) (sym e) h in
    omega (arith, length-drop base words)

pub slice_range-top : (base : ℕ) (bases words : List ℕ) (view : List (List ℕ)) (from count : ℕ) → frames base bases words ≡ view → from + count ≤ length (top view) → slice_range words (base + from) (base + from + count) ≡ slice_range (top view) from (from + count)
slice_range-top base [] words view from count e h =
    let none : from + count ≤ length (top (frames base [] words)) = subst (λ (v : List (List ℕ)). from + count ≤ length (top v)) (sym e) h in
    let empty : count ≡ 0 = omega arith in
    rw empty (grind (arith, common_steps))
slice_range-top base (below ∷ bases) words view from count e h =
    let moved : slice_range words (base + from) (base + from + count) ≡ slice_range (drop base words) from (from + count) = grind (arith, common_steps) in
    moved ∙ ap (λ (v : List (List ℕ)). slice_range (top v) from (from + count)) e

-- ---- ws in place of the words from `base` on

take-refilled : (base : ℕ) (words ws rest : List ℕ) → base ≤ length words → take base (take (length words) ((take base words ++ ws) ++ rest)) ≡ take base words
take-refilled base words ws rest h = grind (arith, common_steps)

drop_front : (front ws rest : List ℕ) (m : ℕ) → m ≤ length ws → drop (length front) (take (length front + m) ((front ++ ws) ++ rest)) ≡ take m ws
drop_front front ws rest m h = rw (drop-take, append_assoc, drop-append_seam, take-append-le m ws rest h) refl

drop-refilled : (base : ℕ) (words ws rest : List ℕ) → base ≤ length words → length words ≤ base + length ws → drop base (take (length words) ((take base words ++ ws) ++ rest)) ≡ take (length (drop base words)) ws
drop-refilled base words ws rest h k =
    let front : length (take base words) ≡ base = grind (arith, common_steps) in
    let back : base + (length words - base) ≡ length words = omega arith in
    let step = drop_front (take base words) ws rest (length words - base) (omega arith) in
    rw length-drop (rw (front, back) at step)

refilled : (base : ℕ) (bases words : List ℕ) (view : List (List ℕ)) (ws : List ℕ) (n : ℕ) (rest : List ℕ) → n ≡ length words → base ≤ length words → frames base bases words ≡ view → frames base bases (take n ((take base words ++ (ws ++ drop (length ws) (drop base words))) ++ rest)) ≡ with_words view ws
refilled base [] words view ws n rest l h e = ap (λ (v : List (List ℕ)). with_words v ws) e
refilled base (below ∷ bases) words view ws n rest l h e =
    let filled = ws ++ drop (length ws) (drop base words) in
    let long : length words ≤ base + length (ws ++ drop (length ws) (drop base words)) = grind (arith, common_steps) in
    rw (l, take-refilled base words filled rest h, drop-refilled base words filled rest h long)
    (ap (λ (v : List (List ℕ)). with_words v ws) e)

pub frames-with_items_from : (base : ℕ) (bases : List ℕ) (words : Vec ℕ) (view : List (List ℕ)) (ws : List ℕ) → base ≤ length words.items → frames base bases words.items ≡ view → frames base bases (with_items_from words base ws).items ≡ with_words view ws
frames-with_items_from base bases words view ws h e =
    refilled base bases words.items view ws words.len (drop (length (take base words.items ++ (ws ++ drop (length ws) (drop base words.items)))) words.items) words.ok.0 h e

-- as many frames are open as beginnings are kept
pub length-frames : (base : ℕ) (bases words : List ℕ) → length (frames base bases words) ≡ length bases
length-frames base [] words = refl
length-frames base (below ∷ bases) words = ap suc (length-frames below bases (take base words))

pub depth-frames : (base : ℕ) (bases words : List ℕ) (view : List (List ℕ)) → frames base (reverse bases) words ≡ view → length bases ≡ length view
depth-frames base bases words view e = sym (length-reverse bases) ∙ sym (length-frames base (reverse bases) words) ∙ ap length e
