use Rattle.std.proofs.Common.{◌≡◌, ℕ, ◌<◌, List, [], map, length, get_or, sym, ap, ◌∙◌}
use Rattle.std.proofs.lemmas.Bool.{not-false, not-true}
use Rattle.std.proofs.lemmas.List.{get_or-map, length-map}
use Rattle.hk_parse.specs.BlockLines.{param_names}
use Rattle.hk_parse.specs.inside.Headers.{plain_param}
use Rattle.hk_parse.specs.declared.headers.ParamWords.{ParamWords}
use Rattle.hk_spec.specs.declared.parts.ParamKind.TheVariants.{Num}
use Rattle.hk_terms.proofs.NameLists.{seen_twice, seen_more}
use Rattle.hk_parse.proofs.headers.add_names.Goals as goal

abbrev none : ParamWords
none = record { kind = Num; name = record { ref_ptr = (0, 0); now = [] } }

inside_names : (params : List ParamWords) (i : ℕ) → i < length params → i < length (param_names (map plain_param params))
inside_names params i inside = simp length-map inside

name_at : (params : List ParamWords) (i : ℕ) (d : ParamWords) → i < length params → get_or (param_names (map plain_param params)) i [] ≡ (get_or params i d).name.now
name_at params i d inside = get_or-map (λ p. p.name) (map plain_param params) i (plain_param d) [] (simp length-map inside) ∙ ap (λ p. p.name) (get_or-map plain_param params i d (plain_param d) inside)

pub returns-then-not-branch : goal.returns-then-not-branch
returns-then-not-branch c =
    let params = c.args.params.now in
    let place = c.loop-param.param-index in
    let inside : place < length params = c.loop-param-test.true in
    let name = (get_or params place none).name in
    sym (seen_twice (param_names (map plain_param params)) c.loop-param.seen.keys place c.loop-param.invariant.seen (inside_names params place inside) name (name_at params place none inside) (not-false _ (sym c.in_ok-insert.ensures.added ∙ c.if-not-branch.true)))

pub loop-param-preserved : goal.loop-param-preserved
loop-param-preserved c =
    let params = c.args.params.now in
    let place = c.loop-param.param-index in
    let inside : place < length params = c.loop-param-test.true in
    let name = (get_or params place none).name in
    let both = seen_more (param_names (map plain_param params)) c.loop-param.seen.keys place c.loop-param.invariant.seen (inside_names params place inside) name (name_at params place none inside) c.in_ok-insert.ensures.keys (not-true _ (sym c.in_ok-insert.ensures.added ∙ c.if-not-branch.false)) c.loop-param.invariant.distinct in
    record { seen = both.0; distinct = both.1 }
