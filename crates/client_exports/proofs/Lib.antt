mod Boxes
mod Covers
mod Handles
