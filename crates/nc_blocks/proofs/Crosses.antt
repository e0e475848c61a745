-- Which parts of a block may go to another thread (send) and be shared by threads (sync). One `search` for a whole statement runs out of steps.
use denote.Enum.Declared.{shape}
use denote.Param.Send.{EachSend, EachSync, IsSend, IsSync, enum_send, enum_sync, sendable}
use Rattle.std.proofs.Crossing.{crosses}
use Rattle.nc_expressions.proofs.trees.Expr.TheLaws.TheKnot as knot
use Rattle.nc_expressions.specs.contracts.trees.Expr as Expr
use Rattle.nc_blocks.specs.contracts.blocks.Block as Block
use Rattle.nc_blocks.specs.contracts.blocks.JumpTo as JumpTo
use Rattle.nc_blocks.specs.contracts.blocks.Operand as Operand
use Rattle.nc_blocks.specs.contracts.blocks.Stmt as Stmt
use Rattle.nc_blocks.specs.contracts.blocks.Word as Word

expression_send : IsSend Expr.the_field.row
expression_send = search (sendable, crosses, knot.send-Expr) depth 40

expression_sync : IsSync Expr.the_field.row
expression_sync = search (sendable, crosses, knot.sync-Expr) depth 40

operand_send : IsSend Operand.the_field.row
operand_send = search (sendable, crosses, expression_send) depth 40

operand_sync : IsSync Operand.the_field.row
operand_sync = search (sendable, crosses, expression_sync) depth 40

word_send : IsSend Word.the_field.row
word_send = search (sendable, crosses, expression_send, operand_send) depth 40

word_sync : IsSync Word.the_field.row
word_sync = search (sendable, crosses, expression_sync, operand_sync) depth 40

jump_send : IsSend JumpTo.the_field.row
jump_send = search (sendable, crosses) depth 40

jump_sync : IsSync JumpTo.the_field.row
jump_sync = search (sendable, crosses) depth 40

ruleset sent = (sendable, crosses, expression_send, operand_send, word_send, jump_send)

ruleset shared = (sendable, crosses, expression_sync, operand_sync, word_sync, jump_sync)

-- one for each variant
variants_send : EachSend (shape Stmt.the_type).variants
variants_send = (
  search sent depth 40,
  (
    search sent depth 40,
    (
      search sent depth 40,
      (
        search sent depth 40,
        (
          search sent depth 40,
          (
            search sent depth 40,
            (
              search sent depth 40,
              (
                search sent depth 40,
                (
                  search sent depth 40,
                  (
                    search sent depth 40,
                    (
                      search sent depth 40,
                      (
                        search sent depth 40,
                        (
                          search sent depth 40,
                          (
                            search sent depth 40,
                            (
                              search sent depth 40,
                              (
                                search sent depth 40,
                                (
                                  search sent depth 40,
                                  (
                                    search sent depth 40,
                                    (
                                      search sent depth 40,
                                      (
                                        search sent depth 40,
                                        (
                                          search sent depth 40,
                                          (
                                            search sent depth 40,
                                            (
                                              search sent depth 40,
                                              (
                                                search sent depth 40,
                                                (
                                                  search sent depth 40,
                                                  tt,
                                                ),
                                              ),
                                            ),
                                          ),
                                        ),
                                      ),
                                    ),
                                  ),
                                ),
                              ),
                            ),
                          ),
                        ),
                      ),
                    ),
                  ),
                ),
              ),
            ),
          ),
        ),
      ),
    ),
  ),
)

pub statement_send : IsSend Stmt.the_field.row
statement_send = enum_send (shape Stmt.the_type) variants_send

variants_sync : EachSync (shape Stmt.the_type).variants
variants_sync = (
  search shared depth 40,
  (
    search shared depth 40,
    (
      search shared depth 40,
      (
        search shared depth 40,
        (
          search shared depth 40,
          (
            search shared depth 40,
            (
              search shared depth 40,
              (
                search shared depth 40,
                (
                  search shared depth 40,
                  (
                    search shared depth 40,
                    (
                      search shared depth 40,
                      (
                        search shared depth 40,
                        (
                          search shared depth 40,
                          (
                            search shared depth 40,
                            (
                              search shared depth 40,
                              (
                                search shared depth 40,
                                (
                                  search shared depth 40,
                                  (
                                    search shared depth 40,
                                    (
                                      search shared depth 40,
                                      (
                                        search shared depth 40,
                                        (
                                          search shared depth 40,
                                          (
                                            search shared depth 40,
                                            (
                                              search shared depth 40,
                                              (
                                                search shared depth 40,
                                                (
                                                  search shared depth 40,
                                                  tt,
                                                ),
                                              ),
                                            ),
                                          ),
                                        ),
                                      ),
                                    ),
                                  ),
                                ),
                              ),
                            ),
                          ),
                        ),
                      ),
                    ),
                  ),
                ),
              ),
            ),
          ),
        ),
      ),
    ),
  ),
)

pub statement_sync : IsSync Stmt.the_field.row
statement_sync = enum_sync (shape Stmt.the_type) variants_sync

pub block_send : IsSend Block.the_field.row
block_send = search (sendable, crosses, statement_send) depth 40

pub block_sync : IsSync Block.the_field.row
block_sync = search (sendable, crosses, statement_sync) depth 40
