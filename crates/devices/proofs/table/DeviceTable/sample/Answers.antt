use Rattle.std.proofs.Common.{◌≡◌, ◌*◌, map, length, take, sym, refl, ap, ◌∙◌, arith}
use Rattle.std.proofs.lemmas.List.{length-map, length-take-le, map-append, take-map}
use Rattle.devices.specs.Chip.{chip, fresh, lowered}
use Rattle.devices.specs.Table.{row, all_ready, table_pairs, table_chips}
use Rattle.devices.proofs.Rows.{row_append, row_take}
use Rattle.devices.proofs.table.DeviceTable.sample.Goals as goal

pub returns : goal.returns
returns c =
    let t = c.args.self.now in
    let n = 2 * table_pairs t in
    let ds = t.devices in
    let es = c.sample_all.new.devices in
    let long : length ds ≡ 20 = omega arith in
    let part : map chip (take c.count-count.result ds) ≡ table_chips t =
    ap (λ k. map chip (take k ds)) c.count-count.ensures
    ∙ (sym (take-map chip n ds) ∙ sym (row_take fresh n (map chip ds) (omega (arith, length-map ds chip)))) in
    let short : length (map chip es) ≡ n =
    omega (arith, length-map es chip, c.sample_all.auto.devices, length-take-le c.count-count.result ds (omega (arith, c.count-count.ensures))) in
    record {
      answer = c.sample_all.ensures.answer ∙ ap all_ready part;
      after =
          record {
            pairs = refl;
            chips =
                ap (row fresh n) (map-append chip es _)
                ∙ (row_append fresh n (map chip es) _ short ∙ (c.sample_all.ensures.after ∙ ap (map lowered) part));
          };
    }
