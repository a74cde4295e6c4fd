use Rattle.std.proofs.Common.{◌≡◌, ℕ, ◌∙◌, ◌+◌, ◌++◌, ◌-◌, ◌<◌, ap, arith, drop, get_or, length, refl, subst, sym}
use Rattle.std.specs.Prelude.{Contains, flat_map}
use Rattle.rayon.proofs.ListFacts.{IfOk-then}
use Rattle.cmh_graph.specs.Core.{leaders}
use Rattle.cmh_text.specs.Report.{line, group_line}
use Rattle.cmh_text.proofs.JoinedTexts.{no_text_from, text_from}
use Rattle.cmh_text.proofs.group_lines.GroupLines.text_of.Goals as goal

pub loop-n-init : goal.loop-n-init
loop-n-init c = record {
  same = refl;
  text =
      c.new-text.ensures
      ∙ sym (no_text_from (λ p. line (group_line c.args.self.now p)) c.args.chunk.now _ (omega arith));
}

-- each of the chunk leads a group
pub line_of-requires : goal.line_of-requires
line_of-requires c =
    subst (λ g. Contains (leaders g) (get_or c.args.chunk.now (c.loop-n.n - 1) 0)) (sym c.loop-n.invariant.same)
    (c.requires (c.loop-n.n - 1) 0 (omega arith))

pub loop-n-preserved : goal.loop-n-preserved
loop-n-preserved c =
    let text = λ (p : ℕ). line (group_line c.args.self.now p) in
    let chunk = c.args.chunk.now in
    let more : c.loop-n.n ≡ (c.loop-n.n - 1) + 1 = omega arith in
    let within : c.loop-n.n - 1 < length chunk = omega arith in
    let here = c.in_ok-line.ensures.text
    ∙ ap (λ g. line (group_line g (get_or chunk (c.loop-n.n - 1) 0))) c.loop-n.invariant.same in
    record {
      same = c.in_ok-line.ensures.same ∙ c.loop-n.invariant.same;
      text =
          c.in_ok-push.ensures
          ∙ (λ i. here i ++ c.loop-n.invariant.text i)
          ∙ text_from text chunk c.loop-n.n (c.loop-n.n - 1) 0 more within;
    }

pub returns : goal.returns
returns c =
    let text = λ (p : ℕ). line (group_line c.args.self.now p) in
    let none : c.loop-n.n ≡ 0 = omega arith in
    IfOk-then c.into_pieces.result _ _ c.into_pieces.ensures (λ made is.
    is
    ∙ c.loop-n.invariant.text
    ∙ ap (λ n. flat_map text (drop n c.args.chunk.now)) none)
