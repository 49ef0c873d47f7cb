use Rattle.std.proofs.Common.{arith, rules, ap, sym, ◌∙◌, ◌≡◌, ◌+◌, ◌-◌, ◌<◌, ℕ, Option, None, List, drop, get_or, length, map, take}
use Rattle.std.proofs.lemmas.List.{drop-drop, get_or_default, length-drop, length-set, take_all}
use Rattle.for_c.specs.LevelBytes.{level_byte}
use Rattle.for_c.proofs.LevelBlocks.{block_written, byte_more, rest_unchanged}
use Rattle.for_c.proofs.columns.write_block.Goals as goal

pub loop-j-preserved : goal.loop-j-preserved
loop-j-preserved c =
    let l = c.loop-j in
    let levels : List (Option ℕ) = c.args.levels.now in
    let k : ℕ = c.args.k in
    let within : k + l.j < length levels = omega (arith, c.requires.inside, c.loop-j-test.true, l.auto.j-end) in
    let inside : l.j < length (drop k levels) = omega (arith, within, length-drop k levels) in
    let item : c.index-levels-k.result ≡ get_or levels (k + l.j) None =
    c.index-levels-k.is ∙ get_or_default levels (k + l.j) c.index-levels-k.result None within in
    let room : l.j < length l.bytes = omega (arith, l.invariant.0, c.loop-j-test.true, l.auto.j-end) in (
      length-set l.bytes l.j c.byte_of.result ∙ l.invariant.0,
      byte_more levels k l.j l.bytes c.byte_of.result room inside l.invariant.1
          (c.byte_of.ensures ∙ ap level_byte item),
    )

pub returns-clause-written : goal.returns-clause-written
returns-clause-written c =
    let l = c.loop-j in
    let size : length c.copy_from_slice.new.self ≡ 16 = search rules in
    let all : l.j ≡ 16 = search rules in
    let copied : c.copy_from_slice.new.self ≡ l.bytes = c.copy_from_slice.ensures.after in
    let is : c.copy_from_slice.new.self ≡ map level_byte (take 16 (drop c.args.k c.args.levels.now)) =
    sym (take_all 16 c.copy_from_slice.new.self (omega (arith, size)))
    ∙ ap (take 16) copied
    ∙ ap (λ (n : ℕ). take n l.bytes) (sym all)
    ∙ l.invariant.1
    ∙ ap (λ (n : ℕ). map level_byte (take n (drop c.args.k c.args.levels.now))) all in
    block_written c.args.levels.now c.args.k 16 c.args.out.now c.copy_from_slice.new.self _
    (omega (arith, c.requires.inside, c.requires.fits)) size c.requires.before is

pub returns-clause-following : goal.returns-clause-following
returns-clause-following c =
    let size : length c.copy_from_slice.new.self ≡ 16 = search rules in
    rest_unchanged c.args.levels.now c.args.k 16 c.args.out.now c.copy_from_slice.new.self _
    (omega (arith, c.requires.inside, c.requires.fits)) size
    ∙ drop-drop (c.args.k + 16 - c.args.k) c.args.k c.args.out.now
    ∙ ap (λ (n : ℕ). drop n c.args.out.now) (omega arith)
