-- Lists of tokens: one more token, and that a text has one list of tokens or one fault.
use Rattle.std.proofs.Common.{◌≡◌, ℕ, ◌-◌, List, [], ◌∷◌, ◌++◌, length, Result, Ok, Err, refl, sym, ap, subst, ◌∙◌, arith}
use Rattle.std.specs.Prelude.{All}
use Rattle.std.proofs.lemmas.List.Elements.{All-nil, All-cons}
use Rattle.sa_ast.specs.declared.refusal.Refusal.{Refusal}
use Rattle.sa_lexer.specs.declared.token.Token.{Token}
use Rattle.sa_lexer.specs.declared.scan_result.ScannedToken.{ScannedToken}
use Rattle.sa_lexer.specs.declared.scan_result.Fault.{Fault}
use Rattle.sa_lexer.specs.Gap.{mark_len}
use Rattle.sa_lexer.specs.Token.{IsWithin}
use Rattle.sa_lexer.specs.Tokens.{gap_end, found_as, IsTokenAt, Follow, end_of, AreTokensOf, BreaksAt, IsFaultOf}

abbrev ok : ScannedToken → Result ScannedToken Fault
ok x = Ok x

abbrev err : Fault → Result ScannedToken Fault
err x = Err x

ok_same : (x y : ScannedToken) → ok x ≡ ok y → x ≡ y
ok_same x y e = cc

err_same : (x y : Fault) → err x ≡ err y → x ≡ y
err_same x y e = cc

ok_err : (x : ScannedToken) (y : Fault) → ok x ≡ err y → ⊥
ok_err x y e = cc

-- one more token after the others
pub Follow-push : (text : List ℕ) (place : ℕ) (tokens : List Token) (token : Token) → Follow text place tokens → IsTokenAt text (gap_end text (end_of place tokens)) token → Follow text place (tokens ++ token ∷ [])
Follow-push text place [] token follow occurs = (occurs, tt)
Follow-push text place (first ∷ tokens) token follow occurs = (follow.0, Follow-push text first.end tokens token follow.1 occurs)

pub end_of-push : (place : ℕ) (tokens : List Token) (token : Token) → end_of place (tokens ++ token ∷ []) ≡ token.end
end_of-push place [] token = refl
end_of-push place (first ∷ tokens) token = end_of-push first.end tokens token

-- two tokens at one position are the same
one_token : (text : List ℕ) (place : ℕ) (t u : Token) → IsTokenAt text place t → IsTokenAt text place u → t ≡ u
one_token text place t u p q =
    let found : found_as t ≡ found_as u = ok_same (found_as t) (found_as u) (sym p.front ∙ q.front) in
    let starts : t.start ≡ u.start = p.start ∙ sym q.start in
    let lengths : t.end - t.start ≡ u.end - u.start = ap (λ (f : ScannedToken). f.len) found in
    let ends : t.end ≡ u.end = omega (arith, p.not_empty, q.not_empty) in
    λ i. record { kind = (found i).kind; start = starts i; end = ends i }

-- the first tokens of two lists are the same, and the others follow the same position
same_first : (text : List ℕ) (place : ℕ) (t u : Token) (us : List Token) → IsTokenAt text (gap_end text place) t → Follow text place (u ∷ us) → (t ≡ u) × Follow text t.end us
same_first text place t u us p g =
    let same = one_token text (gap_end text place) t u p g.0 in
    (same, subst (λ (token : Token). Follow text token.end us) (sym same) g.1)

-- a token is only where bytes are left
not_at_end : (text : List ℕ) (place : ℕ) (t : Token) → IsTokenAt text place t → place ≡ length text → ⊥
not_at_end text place t p e = omega (arith, p.start, p.not_empty, p.in_text)

-- a position doesn't have both a token and a fault
not_broken : (text : List ℕ) (place : ℕ) (t : Token) (refusal : Refusal) → IsTokenAt text place t → BreaksAt text place refusal → ⊥
not_broken text place t refusal p b = ok_err _ _ (sym p.front ∙ b.fault)

lists : (text : List ℕ) (place : ℕ) (ts us : List Token) → Follow text place ts → Follow text place us → gap_end text (end_of place ts) ≡ length text → gap_end text (end_of place us) ≡ length text → ts ≡ us
lists text place [] [] f g e h = refl
lists text place [] (u ∷ us) f g e h = absurd (not_at_end text (gap_end text place) u g.0 e)
lists text place (t ∷ ts) [] f g e h = absurd (not_at_end text (gap_end text place) t f.0 h)
lists text place (t ∷ ts) (u ∷ us) f g e h =
    let first = same_first text place t u us f.0 g in
    let ends = ap (λ (token : Token). end_of token.end us) first.0 in
    λ i. first.0 i ∷ lists text t.end ts us f.1 first.1 e (ap (gap_end text) ends ∙ h) i

-- a text has at most one list of tokens
pub one_list : (text : List ℕ) (ts us : List Token) → AreTokensOf text ts → AreTokensOf text us → ts ≡ us
one_list text ts us p q = lists text (mark_len text) ts us p.follow q.follow p.all q.all

list_or_fault : (text : List ℕ) (place : ℕ) (refusal : Refusal) (ts us : List Token) → Follow text place ts → Follow text place us → gap_end text (end_of place ts) ≡ length text → BreaksAt text (gap_end text (end_of place us)) refusal → ⊥
list_or_fault text place refusal [] [] f g e b = omega (arith, b.following, b.in_text)
list_or_fault text place refusal [] (u ∷ us) f g e b = not_at_end text (gap_end text place) u g.0 e
list_or_fault text place refusal (t ∷ ts) [] f g e b = not_broken text (gap_end text place) t refusal f.0 b
list_or_fault text place refusal (t ∷ ts) (u ∷ us) f g e b =
    let first = same_first text place t u us f.0 g in
    let ends = ap (λ (token : Token). end_of token.end us) first.0 in
    list_or_fault text t.end refusal ts us f.1 first.1 e (subst (λ (n : ℕ). BreaksAt text (gap_end text n) refusal) (sym ends) b)

-- a text doesn't have both a list of tokens and a fault
pub not_both : (text : List ℕ) (ts : List Token) (refusal : Refusal) → AreTokensOf text ts → IsFaultOf text refusal → ⊥
not_both text ts refusal p q = list_or_fault text (mark_len text) refusal ts q.tokens p.follow q.follow p.all q.breaks

-- two refusals that name the same rule at the same byte
pub record IsSameFault (r s : Refusal) : Type 0 where
  pub rule : r.rule ≡ s.rule
  pub at : r.pos.at ≡ s.pos.at

faults : (text : List ℕ) (place : ℕ) (r s : Refusal) (ts us : List Token) → Follow text place ts → Follow text place us → BreaksAt text (gap_end text (end_of place ts)) r → BreaksAt text (gap_end text (end_of place us)) s → IsSameFault r s
faults text place r s [] [] f g b d =
    let same = err_same _ _ (sym b.fault ∙ d.fault) in
    let offsets = ap (λ (fault : Fault). fault.offset) same in
    record { rule = ap (λ (fault : Fault). fault.rule) same; at = omega (arith, offsets, b.following, d.following) }
faults text place r s [] (u ∷ us) f g b d = absurd (not_broken text (gap_end text place) u r g.0 b)
faults text place r s (t ∷ ts) [] f g b d = absurd (not_broken text (gap_end text place) t s f.0 d)
faults text place r s (t ∷ ts) (u ∷ us) f g b d =
    let first = same_first text place t u us f.0 g in
    let ends = ap (λ (token : Token). end_of token.end us) first.0 in
    faults text t.end r s ts us f.1 first.1 b (subst (λ (n : ℕ). BreaksAt text (gap_end text n) s) (sym ends) d)

-- a text has at most one fault
pub one_fault : (text : List ℕ) (r s : Refusal) → IsFaultOf text r → IsFaultOf text s → IsSameFault r s
one_fault text r s p q = faults text (mark_len text) r s p.tokens q.tokens p.follow q.follow p.breaks q.breaks

within_from : (text : List ℕ) (place : ℕ) (tokens : List Token) → Follow text place tokens → All (IsWithin text) tokens
within_from text place [] follow = All-nil (IsWithin text)
within_from text place (token ∷ tokens) follow =
    All-cons (IsWithin text) token tokens (record { in_order = omega (arith, follow.0.not_empty); in_text = follow.0.in_text }) (within_from text token.end tokens follow.1)

-- each token of a text spans bytes of it
pub within : (text : List ℕ) (tokens : List Token) → AreTokensOf text tokens → All (IsWithin text) tokens
within text tokens p = within_from text (mark_len text) tokens p.follow
