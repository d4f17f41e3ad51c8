use Rattle.std.proofs.Common.{◌∙◌, ap, List, ℕ, Bor, refl}
use Rattle.std.proofs.lemmas.Iterator.Consumers.{nth_from_yields_List, YieldsList-from_first}
use Rattle.gate_lines.proofs.TextLines.{nth_token}
use Rattle.gate_lines.proofs.lines.Line.token.Goals as goal

pub returns : goal.returns
returns c =
    ap (λ (x : Bor (List ℕ)). x.now) c.unwrap_or.ensures
    ∙ nth_token c.nth.result c.args.self.now.tokens c.args.at _
    (nth_from_yields_List c.nth.result _ c.args.at c.nth.ensures.ran (YieldsList-from_first (λ (x : Bor (List ℕ)). x.now) (λ (ts : List (List ℕ)). ts) c.args.self.now.tokens c.tokens.ensures)) refl
