-- Locals in runs that are joined.
use Rattle.std.proofs.Common.{◌≡◌, ℕ, ◌+◌, List, [], ◌∷◌, ◌++◌, replicate, sym, ap, ◌∙◌, append_assoc}
use Rattle.std.proofs.lemmas.List.{append-nil, replicate-append-replicate}
use Rattle.wa_syntax.specs.declared.module.ValTy.{ValTy}
use Rattle.wa_syntax.specs.declared.locals.LocalRun.{LocalRun}
use Rattle.wa_syntax.specs.Locals.{types_of_runs}
use Rattle.wa_syntax.proofs.Runs.{types_of_runs-push}

-- runs of one type as one
pub one_run : (n m k : ℕ) (a b : ValTy) → k ≡ n + m → a ≡ b → replicate k a ≡ replicate n a ++ replicate m b
one_run n m k a b count same =
    ap (λ (many : ℕ). replicate many a) count ∙ sym (replicate-append-replicate n m a) ∙ ap (λ (ty : ValTy). replicate n a ++ replicate m ty) same

-- the last run is longer
pub longer_last : (runs : List LocalRun) (open_ run last : LocalRun)
    → replicate last.count last.ty ≡ replicate open_.count open_.ty ++ replicate run.count run.ty
    → types_of_runs (runs ++ last ∷ []) ≡ types_of_runs (runs ++ open_ ∷ []) ++ types_of_runs (run ∷ [])
longer_last runs open_ run last joined =
    types_of_runs-push runs last
    ∙ ap (λ (more : List ValTy). types_of_runs runs ++ more) joined
    ∙ sym (append_assoc (types_of_runs runs) (replicate open_.count open_.ty) (replicate run.count run.ty))
    ∙ ap (λ (front : List ValTy). front ++ replicate run.count run.ty) (sym (types_of_runs-push runs open_))
    ∙ ap (λ (more : List ValTy). types_of_runs (runs ++ open_ ∷ []) ++ more) (sym (append-nil (replicate run.count run.ty)))

-- one more run at the end
pub one_more : (runs : List LocalRun) (run : LocalRun) → types_of_runs (runs ++ run ∷ []) ≡ types_of_runs runs ++ types_of_runs (run ∷ [])
one_more runs run =
    types_of_runs-push runs run ∙ ap (λ (more : List ValTy). types_of_runs runs ++ more) (sym (append-nil (replicate run.count run.ty)))

-- an empty run at the end
pub none_more : (runs : List LocalRun) (run : LocalRun) → run.count ≡ 0 → types_of_runs (runs ++ run ∷ []) ≡ types_of_runs runs
none_more runs run empty =
    types_of_runs-push runs run ∙ ap (λ (many : ℕ). types_of_runs runs ++ replicate many run.ty) empty ∙ append-nil (types_of_runs runs)

pub ruleset joining = (one_run, longer_last, one_more, none_more, append-nil)
