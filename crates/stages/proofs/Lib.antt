-- The laws that stages rest on.
mod Evolving
mod Paths
mod Staging
mod Opening
mod Closing
mod Counting
mod Fronts
mod Running
mod Starting
mod Turning
mod Touching
mod Carrying
