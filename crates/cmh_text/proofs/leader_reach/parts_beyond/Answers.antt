use Rattle.std.proofs.Common.{◌∙◌, ◌++◌, ◌∷◌, [], ap, refl, subst, sym}
use Rattle.cmh_text.specs.LeaderReach.{IsOneBeyond}
use Rattle.cmh_text.proofs.Beyond.{parts_beyond}
use Rattle.cmh_text.proofs.leader_reach.parts_beyond.Goals as goal

pub reach_beyond-requires : goal.reach_beyond-requires
reach_beyond-requires c =
    subst (IsOneBeyond c.args.graph.now c.args.leader c.args.base.now) (sym c.deref.ensures.value) c.requires

pub returns : goal.returns
returns c =
    let leader = c.args.leader in
    let by = parts_beyond c.args.graph.now leader c.args.base.now c.args.marks.items c.law_built_graph.ensures.within
    c.requires.base.within c.requires.base.known c.requires.base.beyond c.requires.marks c.requires.more in
    record {
      named = refl;
      leader_reach = record {
        within = c.requires.base.within;
        marks = c.requires.marks;
        reach = c.in_ok-reach.ensures;
      };
      core =
          c.in_ok-push.ensures.items ∙ ap (λ xs. xs ++ leader ∷ []) c.new-core.ensures.items ∙ sym by.core;
      rest = c.in_ok-rest.ensures.items ∙ c.deref-2.ensures.value ∙ sym by.rest;
    }
