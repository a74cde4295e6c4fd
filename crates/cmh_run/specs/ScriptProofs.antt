-- What scripts with the same lines have in common. These proofs stand among the definitions since code can cite no
-- others of its own crate.
use Rattle.std.specs.Prelude.{◌≡◌, ◌↔◌, List, [], ◌∷◌, ◌++◌}
use Rattle.std.proofs.Common.{sym, subst, ◌∙◌}
use Rattle.cmh_graph.specs.Graph.{Graph}
use Rattle.cmh_run.specs.Asks.{Ask}
use Rattle.cmh_run.specs.Script.{ScriptLine, Script, AreTrueOf, Answers, once_asked}

-- with the same lines two scripts speak of the same graphs
pub scripts_keep_graphs : (a b : Script) (g : Graph) → a.lines ≡ b.lines
    → AreTrueOf g a.lines ↔ AreTrueOf g b.lines
scripts_keep_graphs a b g e = (
  λ h. subst (λ (xs : List ScriptLine). AreTrueOf g xs) e h,
  λ h. subst (λ (xs : List ScriptLine). AreTrueOf g xs) (sym e) h,
)

-- a script with the same lines as a silent one is silent
pub scripts_keep_silent : (a b : Script) → a.lines ≡ b.lines → a.lines ≡ [] → b.lines ≡ []
scripts_keep_silent a b e h = sym e ∙ h

-- asks that lead from one script to another, and others that lead on from there, lead on together
pub scripts_ask_on : (a b c : Script) (first second : List Ask) → Answers a b first → Answers b c second
    → Answers a c (first ++ second)
scripts_ask_on a b c [] second x y = subst (λ (s : Script). Answers s c second) (sym x) y
scripts_ask_on a b c (ask ∷ first) second x y = (x.0, scripts_ask_on (once_asked a) b c first second x.1 y)
