-- The functions of a module, body by body.
use Rattle.std.proofs.Common.{◌≡◌, false, ℕ, ◌+◌, ◌<◌, ◌≤◌, List, [], ◌∷◌, ◌++◌, length, get_or, drop, refl, sym, ap, ◌∙◌}
use Rattle.std.proofs.lemmas.List.{drop_more, at_drop_all}
use Rattle.std.specs.List.{FoldsTo}
use Rattle.sa_cfg.specs.declared.body.CfgBody.{CfgBody}
use Rattle.wa_syntax.specs.declared.module.Func.{Func}
use Rattle.sa_emit.specs.Tables.{IsAdded, IsEmitted, made, left_out, IsFunctionOf, HoldsNoTable, AreFunctionsOf, have_table}

pub added : (IsRight : Func → Type 0) (before after : List Func) (func : Func) → IsRight func → after ≡ before ++ func ∷ [] → IsAdded IsRight before after
added IsRight before after func right all = record { func = func; is_right = right; all = all }

pub is_made : (body : CfgBody) (before after : List Func) (func : Func) → IsFunctionOf body func → after ≡ before ++ func ∷ [] → IsEmitted before body after
is_made body before after func right all = made (added (IsFunctionOf body) before after func right all)

pub none_made : (body : CfgBody) (before after : List Func) → after ≡ before → IsEmitted before body after
none_made body before after same = left_out same

-- what the bodies from an index on add to the functions so far is all that is left to add
pub record Leads (old : List Func) (bodies : List CfgBody) (i : ℕ) (funcs : List Func) : Type 0 where
  pub to : (last : List Func) → FoldsTo IsEmitted funcs (drop i bodies) last → FoldsTo IsEmitted old bodies last

pub leads-none : (old : List Func) (bodies : List CfgBody) → Leads old bodies 0 old
leads-none old bodies = record { to = λ last rest. rest }

pub leads-more : (old : List Func) (bodies : List CfgBody) (i : ℕ) (body : CfgBody) (now new : List Func) → Leads old bodies i now → i < length bodies → body ≡ get_or bodies i body → IsEmitted now body new → Leads old bodies (i + 1) new
leads-more old bodies i body now new before h e step = record { to = λ last rest. before.to last (rw here (new, step, rest)) }
  where
    here : drop i bodies ≡ body ∷ drop (i + 1) bodies
    here = drop_more bodies i body h ∙ ap (λ y. y ∷ drop (i + 1) bodies) (sym e)

pub leads-all : (old : List Func) (bodies : List CfgBody) (i : ℕ) (funcs : List Func) → Leads old bodies i funcs → length bodies ≤ i → FoldsTo IsEmitted old bodies funcs
leads-all old bodies i funcs before h = before.to funcs (rw none refl)
  where
    none : drop i bodies ≡ []
    none = at_drop_all (λ ys. ys) bodies i h

pub functions : (bodies : List CfgBody) (runtime between funcs : List Func) → have_table runtime ≡ false → FoldsTo IsEmitted runtime bodies between → IsAdded HoldsNoTable between funcs → AreFunctionsOf bodies funcs
functions bodies runtime between funcs none each main = record { runtime = runtime; before_main = between; runtime_holds_none = none; of_bodies = each; main = main }

pub ruleset grown = (added, is_made, none_made, leads-none, leads-more, leads-all, functions)
