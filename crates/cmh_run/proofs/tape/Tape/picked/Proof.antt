-- The new tape has the list that its caller picks. Nothing is read when it runs.
use Rattle.cmh_run.proofs.Common.{[], ◌∷◌, refl}
use Rattle.std.proofs.raw_atomic.Walks.{proved}
use mir.Syntax.{named, a_type}
use mir.Val.{Val, vstruct, vcons, vnil}
use mir.MapTy.{inst_fn}
use types.Kit.{‵, raw, ◌⊛◌, ◌$◌, ◌∵◌, !, qed, done, move, keep, split, join, suffices, use0}
use types.Part.{agg}
use types.Run.{enter, returns, and_then, no_more}
use types.ByLocal.{alloc_all, pass_all, free_all, look_at, get, sets}
use denote.Builtin.{RefOf}
use denote.Exit.{yes}
use denote.RattleType.{owns}
use denote.Param.{param, layouts}
use denote.Ref.{shr_vals, shr_Tells}
use denote.Shadow.{makes_shadow}
use denote.Signature.{plain, types_at}
use denote.Steps.{nothing}
use denote.Triple.Entry.{alive}
use denote.Triple.Walked.{Stays, walk_of, says, stay_dropped, Goes-dropped, ends_at}
use Rattle.cmh_run.specs.contracts.tape.Tape.{the_row as Tape}
use Rattle.cmh_run.specs.contracts.tape.Tape.picked as f
use Rattle.cmh_run.proofs.tape.Tape.picked.Statement.{statement}
use Rattle.cmh_run.proofs.tape.Tape.picked.Code as code

pub picked_spec : {M : Type 1} → statement M
picked_spec 𝓤 𝓛 𝓜 𝓡 wired T A _ _ =
    let types = layouts (a_type ∷ a_type ∷ []) (T, (A, tt)) in
    let E = f.ended T A in let c = f.clauses T A 𝓛 𝓜.mem 𝓡.returns in
    let stayed : Stays E.signature.params E.kept = (stay_dropped _ yes, tt) in let W = walk_of 𝓛 E stayed c in
    proved 𝓛 E stayed c 𝓜 𝓡
    (Goes-dropped 𝓛 3 (RefOf (0 ∷ []) tt (plain (λ _. param 1 A)) (λ _. tt)) yes (λ κs x w. refl), tt)
    (f.Key.name types) (inst_fn types code.function) (code.unfolded 𝓤 𝓛.H 𝓜 𝓡 wired (T, (A, tt)))
    (λ κs. (shr_vals, tt)) (λ κs. (shr_Tells (named 0) κs.0 (param 1 A), tt))
    (λ κs qs bounds a list are.
    let none : Val = vstruct vnil in let blank : Val = vstruct (vcons none vnil) in
    let tape : (Tape (param 0 T)).Denot = record { of = record {}; items = list } in
    let owned = (Tape (param 0 T)).own_val tape (blank ∷ []) in
    let y : W.Ghost = ((κs, qs, bounds, a, (shr_vals a.0, tt)), list) in
    let passed = ‵ (owns (types_at E.signature.params κs) a y.0.4) in
    qed 𝓛 ((raw (alive 𝓛 E.signature κs qs) ⊛ passed) ∷ raw ((c κs a).requires list) ∷ []) ∵
    keep ! (0 ∷ []) $ split ! $ keep ! (0 ∷ []) $
    -- [the tokens]
    enter ! _ _ _ _ _ $ alloc_all ! (λ l. pass_all ! refl ((tt, tt), tt) $
    sets ! (agg ! (no_more !)) refl (tt, tt) $
    sets ! (agg ! (and_then ! (get ! refl) (no_more !))) refl (tt, (tt, tt)) $
    returns ! (look_at ! 0 refl) $ free_all ! refl $
    use0 𝓛 (‵ owned) (makes_shadow 𝓛 owned ((λ vss. (tt, (λ uss. (tt, tt), tt))), tt)
    (((none ∷ [], tt), (refl, ((tt, (refl, tt)), tt))), tt)) $
    suffices ! _ (ends_at 𝓛 E stayed c y blank tape (tt, tt) (tt, tt)) $ says ! refl $
    nothing ! $ nothing ! $ join ! $ move ! (2 ∷ 0 ∷ 1 ∷ []) $ done !))
