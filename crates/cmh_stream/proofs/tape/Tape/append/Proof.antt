-- The new tape has the bytes of the old one, and then those that go by. Nothing is read when it runs.
use Rattle.std.proofs.Common.{[], ◌∷◌, ◌++◌, refl}
use Rattle.std.proofs.raw_atomic.Walks.{proved}
use mir.Syntax.{named}
use types.Kit.{‵, raw, ◌⊛◌, ◌$◌, ◌∵◌, !, qed, done, move, keep, split, join, suffices}
use types.Part.{agg}
use types.Run.{enter, returns, no_more}
use types.ByLocal.{alloc_all, pass_all, free_all, look_at, sets}
use denote.Builtin.{RefOf, SliceRef, u8}
use denote.Exit.{yes}
use denote.RattleType.{owns}
use denote.Ref.{shr_vals, shr_Tells}
use denote.Slice.{shr_slice_vals, shr_slice_Tells}
use denote.Signature.{plain, types_at}
use denote.Steps.{nothing, owned}
use denote.Triple.Entry.{alive}
use denote.Triple.Walked.{Stays, walk_of, says, stay_dropped, Goes-dropped, ends_at}
use Rattle.cmh_stream.specs.contracts.tape.Tape.{the_row as Tape}
use Rattle.cmh_stream.specs.contracts.tape.Tape.append as f
use Rattle.cmh_stream.proofs.tape.Tape.append.Statement.{statement}
use Rattle.cmh_stream.proofs.tape.Tape.append.Code as code
use Rattle.cmh_stream.proofs.Blank.{blank, tape_made}

abbrev stayed : Stays f.ended.signature.params f.ended.kept
stayed = (stay_dropped _ yes, (stay_dropped _ yes, tt))

pub append_spec : {M : Type 1} → statement M
append_spec 𝓤 𝓛 𝓜 𝓡 wired =
    let c = f.clauses 𝓛 𝓜.mem 𝓡.returns in let W = walk_of 𝓛 f.ended stayed c in
    proved 𝓛 f.ended stayed c 𝓜 𝓡 (
      Goes-dropped 𝓛 2 (RefOf (0 ∷ []) tt (plain (λ _. Tape)) (λ _. tt)) yes (λ κs x w. refl),
      (Goes-dropped 𝓛 2 (SliceRef 1 tt u8 tt) yes (λ κs x w. refl), tt),
    )
    f.Key.name code.function (code.unfolded 𝓤 𝓛.H 𝓜 𝓡 wired)
    (λ κs. (shr_vals, (shr_slice_vals, tt)))
    (λ κs. (shr_Tells (named 0) κs.0 Tape, (shr_slice_Tells (named 1) κs.1.0 u8, tt)))
    (λ κs qs bounds a _ are.
    let tape : Tape.Denot = record { bytes = a.0.now.bytes ++ a.1.0.now } in
    let y : W.Ghost = ((κs, qs, bounds, a, (shr_vals a.0, (shr_slice_vals a.1.0, tt))), tt) in
    let passed = ‵ (owns (types_at f.signature.params κs) a y.0.4) in
    qed 𝓛 ((raw (alive 𝓛 f.signature κs qs) ⊛ passed) ∷ raw ((c κs a).requires tt) ∷ []) ∵
    keep ! (0 ∷ []) $ split ! $ keep ! (0 ∷ []) $
    -- [the tokens]
    enter ! _ _ _ _ _ $ alloc_all ! (λ l.
    pass_all ! refl ((tt, tt), ((tt, (tt, (record { fits = are.1.0.0.1.0 }, tt))), tt)) $
    sets ! (agg ! (no_more !)) refl (tt, tt) $
    returns ! (look_at ! 0 refl) $ free_all ! refl $
    suffices ! _ (ends_at 𝓛 f.ended stayed c y blank tape (tt, (tt, tt)) (tt, (tt, tt))) $
    says ! refl $
    owned ! Tape _ (tape_made 𝓛) tape (blank ∷ []) ((tt, (refl, tt)), tt) $
    nothing ! $ nothing ! $ join ! $ nothing ! $ join ! $ move ! (2 ∷ 0 ∷ 1 ∷ []) $ done !))
