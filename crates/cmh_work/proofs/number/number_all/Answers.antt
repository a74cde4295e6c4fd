use Rattle.std.proofs.Common.{◌≡◌, [], ◌∷◌, ◌++◌, suc, arith, rules, sym, subst}
use Rattle.std.specs.Prelude.{All, Some}
use Rattle.std.proofs.lemmas.List.{get_or_read}
use Rattle.cmh_rw.specs.History.{fold_at}
use Rattle.cmh_work.specs.Record.{IsRowFor}
use Rattle.cmh_work.specs.Numbering.{AreNumbered}
use Rattle.cmh_work.proofs.RecordLemmas.{numbered_more}
use Rattle.cmh_work.proofs.number.number_all.Goals as goal

pub index-row-requires : goal.index-row-requires
index-row-requires g c =
    let f = c.in-Some.finding in
    let stand =
    subst (All (λ x. fold_at c.args.history.now x.initiator ≡ Some x.verdict)) c.in-Some.ensures.steps.0
    c.loop-finding.invariant.left in
    omega (
      arith,
      c.in_ok-numbers.ensures.within f.initiator f.verdict (stand 0 f (omega arith)),
      c.in_ok-numbers.numbers.ok.0,
    )

pub loop-finding-preserved : goal.loop-finding-preserved
loop-finding-preserved g c =
    let rows = c.args.history.now in
    let f = c.in-Some.finding in
    let stand =
    subst (All (λ x. fold_at rows x.initiator ≡ Some x.verdict)) c.in-Some.ensures.steps.0
    c.loop-finding.invariant.left in
    let pushed : c.push.new.self.items ≡ c.loop-finding.records.items ++ c.number_one.result ∷ [] = search rules in
    let numbers = c.in_ok-numbers.numbers.items in
    let stands = stand 0 f (omega arith) in
    let number =
    get_or_read numbers f.initiator _ (c.in_ok-numbers.ensures.within f.initiator f.verdict stands) c.index-row.ensures
    0 in
    let row =
    subst (λ n. IsRowFor rows n f.initiator f.verdict) (sym number)
    (c.in_ok-numbers.ensures.rows f.initiator f.verdict stands) in
    record {
      numbered =
          subst (AreNumbered rows (c.loop-finding.yielded ++ f ∷ [])) (sym pushed)
          (numbered_more rows c.loop-finding.yielded c.loop-finding.records.items f
          c.number_one.result c.loop-finding.invariant.numbered (c.number_one.ensures rows row));
      left = λ k d low. stand (suc k) d (omega (arith, low));
    }
