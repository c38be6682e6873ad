-- The forms of parts of statements whose types this crate alone has.
use Rattle.sa_parser_expr.specs.Forms.{Form, follow, make}
use Rattle.sa_parser_expr.specs.StatementForms.{ending_form, case_arms_form, branches_form}
use Rattle.sa_parser.specs.declared.blocks.CaseChoice.{CaseChoice}
use Rattle.sa_parser.specs.declared.blocks.TypeChoice.{TypeChoice}

-- case_choice = {"when" case_arm} ending
unfoldable pub case_choice_form : Form CaseChoice
case_choice_form = follow case_arms_form (λ arms. make (λ rest. record { arms = arms; rest = rest }) ending_form)

-- type_choice = {"when" branch} ending
unfoldable pub type_choice_form : Form TypeChoice
type_choice_form = follow branches_form (λ branches. make (λ rest. record { branches = branches; rest = rest }) ending_form)
